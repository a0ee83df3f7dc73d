use Rattle.std.proofs.Common.{take}
use Rattle.mm_model.specs.Groups.{among}
use Rattle.mm_audit.proofs.Leaving.{IsNumbers}
use Rattle.mm_audit.proofs.refusals.numbers_inside.Given as goal

abbrev pub invariant-loop-slot : goal.invariant-loop-slot
invariant-loop-slot l = IsNumbers l.inside (take l.slot-index l.slots) (among l.groups)
