-- The number with which a text begins.
use Rattle.std.specs.{Prelude.{◌≡◌, ◌≤◌, ◌⊎◌, ℕ, List, [], ◌∷◌, ◌++◌, decimal}, Char.IsAsciiDigit}
use Rattle.mm_model.specs.Schedule.{item_limit}

-- the list does not begin with a decimal digit
abbrev pub NoDigitFirst : List ℕ → Type 0
NoDigitFirst [] = Unit {0}
NoDigitFirst (b ∷ rest) = ¬ (IsAsciiDigit b)

-- the text is the digits of the number and then the rest, which begins with no digit
pub record Begins (text : List ℕ) (n : ℕ) (rest : List ℕ) : Type 0 where
  pub spelled : text ≡ decimal n ++ rest
  pub ends : NoDigitFirst rest

-- what follows the number of a word says `count` items: nothing, which says one, or `*K`
pub record IsCount (rest : List ℕ) (count : ℕ) : Type 0 where
  pub some : 1 ≤ count
  pub limit : count ≤ item_limit
  pub spelled : ((rest ≡ []) × (count ≡ 1)) ⊎ (rest ≡ 42 ∷ decimal count)
