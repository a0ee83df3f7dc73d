use Rattle.std.{proofs.Common.{◌≡◌, ◌-◌, length}, specs.{Prelude.{find, nat_lt}, List.range_with_len}}
use Rattle.mm_link.specs.Faults.{threads_of, with_slot, slot_numbers}
use Rattle.mm_link.proofs.threads.check_slots.Given as goal

abbrev pub invariant-loop-slot : goal.invariant-loop-slot
invariant-loop-slot l =
    find (λ n. nat_lt 1 (length (with_slot n (threads_of l.objects)))) (range_with_len l.slot (16 - l.slot)) ≡ find
    (λ n. nat_lt 1 (length (with_slot n (threads_of l.objects)))) slot_numbers
