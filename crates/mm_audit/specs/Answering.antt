-- The answer whether groups stand apart, by the slots with their handlers and the least words.
use Rattle.std.specs.{Prelude.{◌≡◌, ◌↔◌, ℕ, ◌<◌, Bool, true, List, length}, Int.bit_at}
use Rattle.mm_audit.specs.declared.{handlers.Served.Served, shared_words.Meets.Meets, apart_groups.Apart.Apart}
use Rattle.mm_audit.specs.{Crossing.{LeastCrossing, NoCrossing}, Writers.{IsWriter, NoWriter}}
use Rattle.mm_audit.specs.declared.apart_groups.Apart.TheVariants as answers

-- the mask of these groups
abbrev pub IsMaskOf : ℕ → (ℕ → Bool) → Type 0
IsMaskOf mask c = (g : ℕ) → (bit_at mask g ≡ 1) ↔ ((g < 64) × (c g ≡ true))

-- no group outside has a word with one inside
pub record NoneWrites (table : List Meets) (c : ℕ → Bool) : Type 0 where
  pub mask : ℕ
  pub is_mask : IsMaskOf mask c
  pub none : NoWriter table mask

-- the least group outside that has a word with one inside, and the least such word
pub record OneWrites (table : List Meets) (c : ℕ → Bool) (h w : ℕ) : Type 0 where
  pub mask : ℕ
  pub is_mask : IsMaskOf mask c
  pub writer : IsWriter table mask h w

-- the answer for these groups
abbrev pub IsAnswerOf : List Served → List Meets → (ℕ → Bool) → Apart → Type 0
IsAnswerOf served table c answers.Yes = NoCrossing served c (length served) × NoneWrites table c
IsAnswerOf served table c (answers.Writer h w) = NoCrossing served c (length served) × OneWrites table c h w
IsAnswerOf served table c (answers.Handler n) = LeastCrossing served c (length served) n
