use Rattle.std.{proofs.Common.take, specs.List.AllByRecursion}
use Rattle.mm_model.specs.Typed.{IsTypedSlot}
use Rattle.mm_model.proofs.slot.Slot.typed.Given as goal

-- of the slots so far
abbrev pub invariant-loop-slot : goal.invariant-loop-slot
invariant-loop-slot l = AllByRecursion IsTypedSlot (take l.slot-index l.slots)
