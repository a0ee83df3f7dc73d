use Rattle.std.proofs.Common.{◌≡◌, ◌+◌, ◌*◌, ◌≤◌, length, drop}
use Rattle.mm_link.specs.Faults.{threads_of, with_slot}
use Rattle.mm_link.proofs.threads.count_in_slot.Given as goal

abbrev pub invariant-loop-object : goal.invariant-loop-object
invariant-loop-object l = record {
  count : l.count + length (with_slot l.slot (threads_of (drop l.object-index l.objects))) ≡ length (with_slot l.slot (threads_of l.objects));
  few : l.count ≤ 16 * l.object-index;
}
