use Rattle.std.{proofs.Common.{◌⊎◌}, specs.Prelude.Contains}
use Rattle.mm_keep_text.specs.Parts.{AreAll, IsHeldIn}
use Rattle.mm_keep_text.proofs.words.put_page.Given as goal

abbrev pub invariant-loop-place : goal.invariant-loop-place
invariant-loop-place l = AreAll (λ w. Contains l.fn.words.keys w ⊎ IsHeldIn l.kernel.image l.kernel.kept l.number l.place w) l.words.keys
