use Rattle.std.proofs.Common.{ℕ, ◌+◌, ◌<◌, get_or}
use Rattle.mm_model.specs.Spelling.{numbers_of}
use Rattle.mm_image.proofs.fits.slots_ascend.Given as goal

abbrev pub invariant-loop-k : goal.invariant-loop-k
invariant-loop-k l = (j : ℕ) → j + 1 < l.k → get_or (numbers_of l.slots) j 0 < get_or (numbers_of l.slots) (j + 1) 0
