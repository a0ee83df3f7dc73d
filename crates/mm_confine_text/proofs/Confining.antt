-- An answer that is yes confines the groups.
use Rattle.std.proofs.Common.{ℕ, List, Result, Ok, Err, IfOk}
use Rattle.mm_model.specs.{Image.Image, Spelling.IsImage}
use Rattle.mm_kernel.specs.Segments.{Segment}
use Rattle.mm_keep_text.specs.declared.told.Answer.{Answer, TheVariants.{Privileged, More, Found}}
use Rattle.mm_keep_text.specs.{Answers.IsAnswer, Laws.KeepsIfYes}
use Rattle.mm_keep_text.proofs.Ones.{yes_keeps, kept_by}
use Rattle.mm_confine.proofs.Confined.{kernels_confine}
use Rattle.mm_confine_text.specs.declared.kept.Kept.{Kept}
use Rattle.mm_confine_text.specs.{Found.IsKept, Laws.ConfinesIfYes}

pub confined_by : (i : Image) (kept : List Segment) (limit : ℕ) (answer : Answer) → IsImage i → IsAnswer i kept limit answer → ConfinesIfYes i kept answer
confined_by i kept limit (Found told) image is none items = kernels_confine i kept items image (yes_keeps i kept limit told is none)
confined_by i kept limit Privileged image is none items = absurd none
confined_by i kept limit More image is none items = absurd none

module _ {E : Type 0} (i : Image) (kept : List Segment) (limit : ℕ) where
  pub kept_if_made : (r : Result Kept E) → IfOk r (IsKept i kept limit) → IsImage i → IfOk r (λ (k : Kept). KeepsIfYes i kept k.answer)
  kept_if_made (Ok k) h image = kept_by i kept limit k.answer image h.answer
  kept_if_made (Err e) h image = tt

  pub confined_if_made : (r : Result Kept E) → IfOk r (IsKept i kept limit) → IsImage i → IfOk r (λ (k : Kept). ConfinesIfYes i kept k.answer)
  confined_if_made (Ok k) h image = confined_by i kept limit k.answer image h.answer
  confined_if_made (Err e) h image = tt
