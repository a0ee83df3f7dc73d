use Rattle.std.{proofs.Common.{◌≡◌, ℕ, ◌<◌, true, false}, specs.Prelude.slice_index_or}
use Rattle.mm_object.proofs.fits.are_used.Given as goal

abbrev pub invariant-loop-k : goal.invariant-loop-k
invariant-loop-k l = (i : ℕ) → i < l.k → slice_index_or l.used i false ≡ true
