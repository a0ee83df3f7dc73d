use Rattle.std.proofs.Common.{◌≡◌, drop}
use Rattle.mm_link.specs.Faults.{outsides}
use Rattle.mm_link.proofs.offsets.check_offsets.Given as goal

abbrev pub invariant-loop-object : goal.invariant-loop-object
invariant-loop-object l = outsides l.sites (drop l.object-index l.objects) ≡ outsides l.sites l.objects
