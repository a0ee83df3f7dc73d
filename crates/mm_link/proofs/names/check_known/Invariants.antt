use Rattle.std.proofs.Common.{◌≡◌, drop}
use Rattle.mm_link.specs.Faults.{unknown_names}
use Rattle.mm_link.proofs.names.check_known.Given as goal

abbrev pub invariant-loop-object : goal.invariant-loop-object
invariant-loop-object l = unknown_names l.sites (drop l.object-index l.objects) ≡ unknown_names l.sites l.objects
