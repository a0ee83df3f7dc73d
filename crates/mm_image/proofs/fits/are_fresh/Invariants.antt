use Rattle.std.{proofs.Common.take, specs.List.AllByRecursion}
use Rattle.mm_model.specs.Spelling.{IsFresh}
use Rattle.mm_image.proofs.fits.are_fresh.Given as goal

abbrev pub invariant-loop-slot : goal.invariant-loop-slot
invariant-loop-slot l = AllByRecursion (IsFresh l.limit l.slots) (take l.slot-index l.slots)
