use Rattle.std.proofs.Common.{◌≡◌, ◌↔◌, ℕ, take}
use Rattle.std.specs.Int.{bit_at}
use Rattle.mm_hold.specs.Holdings.{GroupOf}
use Rattle.mm_hold.proofs.reached.groups_of.Given as goal

abbrev pub invariant-loop-slot : goal.invariant-loop-slot
invariant-loop-slot l = (g : ℕ) → (bit_at l.groups g ≡ 1) ↔ GroupOf (take l.slot-index l.slots) l.mask g
