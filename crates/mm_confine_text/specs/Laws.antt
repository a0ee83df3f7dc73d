-- What a text means, and that it is the only one.
use Rattle.std.specs.Prelude.{◌≡◌, ℕ, List}
use Rattle.mm_model.specs.{Image.{Image, start}, Run.run}
use Rattle.mm_kernel.specs.Segments.{Segment}
use Rattle.mm_keep_text.specs.{declared.told.Answer.Answer, Laws.IsYes}
use Rattle.mm_confine.specs.Laws.{TurnsAreConfined}
use Rattle.mm_confine_text.specs.Told.{Tells}

-- If the answer is yes, then after every list of items each access is one that its group reaches, or is on a kept word that
-- threads of the kernel use so, from a door or a slot that the text names for the group.
abbrev pub ConfinesIfYes : Image → List Segment → Answer → Type 0
ConfinesIfYes i kept answer = IsYes answer → (items : List ℕ) → TurnsAreConfined i kept (run (start i) items)

-- An image, its kept segments and the limit determine the text.
abbrev pub TextsAreOne : Type 0
TextsAreOne = (i : Image) (kept : List Segment) (limit : ℕ) (a b : List ℕ) → Tells i kept limit a → Tells i kept limit b
    → a ≡ b
