use Rattle.std.proofs.Common.{◌≡◌, drop}
use Rattle.mm_link.specs.Faults.{threads_of, is_unhandled, is_unhandled_in}
use Rattle.mm_link.proofs.threads.is_unhandled.Given as goal

abbrev pub invariant-loop-object : goal.invariant-loop-object
invariant-loop-object l = is_unhandled_in l.objects l.slot (threads_of (drop l.object-index l.objects)) ≡ is_unhandled l.objects l.slot
