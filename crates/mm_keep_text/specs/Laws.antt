-- What an answer means, and that it is the only one.
use Rattle.std.specs.Prelude.{◌≡◌, ℕ, List, []}
use Rattle.mm_model.specs.{Image.{Image, start}, Run.run, Spelling.IsImage}
use Rattle.mm_kernel.specs.{Segments.Segment, Derived.Keeps, Variants.Variant, Laws.StateKept}
use Rattle.mm_keep_text.specs.declared.told.Answer.{Answer, TheVariants.Found}
use Rattle.mm_keep_text.specs.{Told.Told, Answers.{IsAnswer, answer_text}}

-- the answer is yes: all that the kernel can come to was found, and there is no leak
abbrev pub IsYes : Answer → Type 0
IsYes (Found told) = told.leaks ≡ []
IsYes _ = ⊥

-- If the answer is yes, the kernel keeps its segments after every list of items, in every variant of the image:
-- whatever code and words its callers have.
abbrev pub KeepsIfYes : Image → List Segment → Answer → Type 0
KeepsIfYes i kept answer = IsYes answer → (j : Image) (items : List ℕ) → IsImage j → Variant i kept j
    → StateKept i kept j (run (start j) items)

-- A kernel of which no leak is told keeps its segments.
abbrev pub YesKeeps : Type 0
YesKeeps = (i : Image) (kept : List Segment) (limit : ℕ) (told : Told) → IsAnswer i kept limit (Found told)
    → told.leaks ≡ [] → Keeps i kept

-- An image, its kept segments and the limit determine the answer's text.
abbrev pub AnswersAreOne : Type 0
AnswersAreOne = (i : Image) (kept : List Segment) (limit : ℕ) (a b : Answer) → IsAnswer i kept limit a
    → IsAnswer i kept limit b → answer_text a ≡ answer_text b
