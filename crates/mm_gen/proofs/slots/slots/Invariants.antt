use Rattle.std.{proofs.Common.{◌≡◌, map}, specs.List.range_with_len}
use Rattle.mm_gen.specs.Generated.{slot_at}
use Rattle.mm_gen.proofs.slots.slots.Given as goal

abbrev pub invariant-loop-number : goal.invariant-loop-number
invariant-loop-number l = l.slots.items ≡ map slot_at (range_with_len 0 l.number)
