-- The words at which two groups meet: one writes what the other touches.
use Rattle.std.specs.Prelude.{◌≡◌, ℕ, ◌+◌, ◌<◌, ◌≤◌, ◌↔◌, ◌⊎◌, List, [], length, slice_index, slice_index_or, replicate}
use Rattle.std.specs.Int.{bit_at}
use Rattle.mm_model.specs.declared.word_use.WordUse.TheVariants.{Touch, Write}
use Rattle.mm_audit.specs.{declared.{span.Span.Span, shared_words.Meets.Meets}, Spans.base_at, Opening.IsLive}

abbrev pub no_meets : Meets
no_meets = record { groups = 0; words = replicate 64 0 }

-- the row past the end of a table
abbrev pub no_row : Meets
no_row = record { groups = 0; words = [] }

abbrev pub row_at : List Meets → ℕ → Meets
row_at table h = slice_index_or table h no_row

-- the group of a row has a word with another
abbrev pub HasWord : List Meets → ℕ → ℕ → Type 0
HasWord table h g = bit_at (row_at table h).groups g ≡ 1

abbrev pub word_at : List Meets → ℕ → ℕ → ℕ
word_at table h g = slice_index (row_at table h).words g

-- the result has the groups of one mask that are not in the other
abbrev pub IsWithout : ℕ → ℕ → ℕ → Type 0
IsWithout groups others result =
    (g : ℕ) → g < 64 → (bit_at result g ≡ 1) ↔ ((bit_at groups g ≡ 1) × (bit_at others g ≡ 1 → ⊥))

-- the word was put at these groups, as far as their numbers are below `top`
pub record FillsWords (groups word top : ℕ) (old new : List ℕ) : Type 0 where
  pub len : length new ≡ length old
  pub put : (g : ℕ) → g < top → bit_at groups g ≡ 1 → slice_index new g ≡ word
  pub keeps : (g : ℕ) → (bit_at groups g ≡ 1 → ⊥) → slice_index new g ≡ slice_index old g

-- the word was noted for these groups, except those that had one
pub record NotesWord (groups word : ℕ) (old new : Meets) : Type 0 where
  pub len : length new.words ≡ length old.words
  pub has : (g : ℕ) → g < 64 → (bit_at new.groups g ≡ 1) ↔ ((bit_at old.groups g ≡ 1) ⊎ (bit_at groups g ≡ 1))
  pub keeps : (g : ℕ) → g < 64 → bit_at old.groups g ≡ 1 → slice_index new.words g ≡ slice_index old.words g
  pub notes : (g : ℕ) → g < 64 → bit_at groups g ≡ 1 → (bit_at old.groups g ≡ 1 → ⊥) → slice_index new.words g ≡ word

-- the table has a row for each group
pub record AreRows (table : List Meets) : Type 0 where
  pub len : length table ≡ 64
  pub rows : (h : ℕ) → h < 64 → length (row_at table h).words ≡ 64

-- the table has `top` rows, all without a word
pub record AreNoRows (top : ℕ) (table : List Meets) : Type 0 where
  pub len : length table ≡ top
  pub rows : (h : ℕ) → h < top → row_at table h ≡ no_meets

-- the word was noted in the rows of these writers, as far as their numbers are below `top`
pub record NotesAll (writers touchers word top : ℕ) (old new : List Meets) : Type 0 where
  pub rows : AreRows new
  pub notes : (h : ℕ) → h < top → bit_at writers h ≡ 1 → NotesWord touchers word (row_at old h) (row_at new h)
  pub keeps : (h : ℕ) → (bit_at writers h ≡ 1 → ⊥) ⊎ (top ≤ h) → row_at new h ≡ row_at old h

-- at the first address of a span, one group writes and the other touches
pub record MeetAt (spans : List Span) (k h g : ℕ) : Type 0 where
  pub writes : IsLive spans Write (k + 1) (base_at spans k) h
  pub touches : IsLive spans Touch (k + 1) (base_at spans k) g

-- the word is the first address of one of the first `top` spans, and the groups meet there
pub record IsMeeting (spans : List Span) (top h g word : ℕ) : Type 0 where
  pub span : ℕ
  pub small : span < top
  pub is : word ≡ base_at spans span
  pub meet : MeetAt spans span h g

-- Each row has a word with each group that its own group meets at one of the first spans, and no later word than that.
pub record HaveMet (spans : List Span) (top : ℕ) (table : List Meets) : Type 0 where
  pub rows : AreRows table
  pub some : (h g : ℕ) → h < 64 → g < 64 → HasWord table h g → IsMeeting spans top h g (word_at table h g)
  pub each : (k h g : ℕ) → k < top → h < 64 → g < 64 → MeetAt spans k h g
      → HasWord table h g × (word_at table h g ≤ base_at spans k)
