-- The least word that a group outside writes and a group inside touches.
use Rattle.std.specs.{Prelude.{◌≡◌, ℕ, ◌<◌, ◌≤◌, List, slice_index}, Int.bit_at}
use Rattle.mm_audit.specs.{declared.shared_words.Meets.Meets, Meeting.row_at}

-- the row has a word with a group of the mask, whose number is below `top`
pub record IsWord (row : Meets) (inside top g : ℕ) : Type 0 where
  pub small : g < top
  pub is_in : bit_at inside g ≡ 1
  pub has : bit_at row.groups g ≡ 1

abbrev pub NoneWith : Meets → ℕ → ℕ → Type 0
NoneWith row inside top = (g : ℕ) → ¬ IsWord row inside top g

pub record LeastWith (row : Meets) (inside top w : ℕ) : Type 0 where
  pub group : ℕ
  pub has : IsWord row inside top group
  pub is : w ≡ slice_index row.words group
  pub least : (g : ℕ) → IsWord row inside top g → w ≤ slice_index row.words g

abbrev pub IsOutside : ℕ → ℕ → Type 0
IsOutside inside g = bit_at inside g ≡ 1 → ⊥

-- the least group outside that has a word with a group inside, and the least such word
pub record IsWriter (table : List Meets) (inside h w : ℕ) : Type 0 where
  pub small : h < 64
  pub outside : IsOutside inside h
  pub word : LeastWith (row_at table h) inside 64 w
  pub first : (k : ℕ) → k < h → IsOutside inside k → NoneWith (row_at table k) inside 64

abbrev pub NoWriter : List Meets → ℕ → Type 0
NoWriter table inside = (h : ℕ) → h < 64 → IsOutside inside h → NoneWith (row_at table h) inside 64
