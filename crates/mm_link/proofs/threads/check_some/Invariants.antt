use Rattle.std.proofs.Common.{◌≡◌, drop}
use Rattle.mm_link.specs.Faults.{no_thread}
use Rattle.mm_link.proofs.threads.check_some.Given as goal

abbrev pub invariant-loop-object : goal.invariant-loop-object
invariant-loop-object l = no_thread (drop l.object-index l.objects) ≡ no_thread l.objects
