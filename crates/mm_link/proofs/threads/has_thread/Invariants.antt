use Rattle.std.proofs.Common.{◌≡◌, drop}
use Rattle.mm_link.specs.{Faults.threads_of, Steps.has_slot}
use Rattle.mm_link.proofs.threads.has_thread.Given as goal

abbrev pub invariant-loop-object : goal.invariant-loop-object
invariant-loop-object l = has_slot l.slot (threads_of (drop l.object-index l.objects)) ≡ has_slot l.slot (threads_of l.objects)
