use Rattle.std.{proofs.Common.{◌≡◌, ◌-◌}, specs.{Prelude.find, List.range_with_len}}
use Rattle.mm_link.specs.Faults.{slot_numbers, is_unhandled}
use Rattle.mm_link.proofs.threads.check_handlers.Given as goal

abbrev pub invariant-loop-slot : goal.invariant-loop-slot
invariant-loop-slot l = find (is_unhandled l.objects) (range_with_len l.slot (16 - l.slot)) ≡ find (is_unhandled l.objects) slot_numbers
