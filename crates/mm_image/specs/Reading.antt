-- What the code that reads an image keeps between its fields.
use Rattle.std.specs.Prelude.{◌≡◌, ◌<◌, slice_index_or, ℕ, Bool, false, List, []}
use Rattle.mm_model.specs.{Slot.Slot, Image.none_empty, Spelling.has_number}

-- the slot has taken no turn and waits for nothing
pub record HasNotRun (s : Slot) : Type 0 where
  pub past : s.past ≡ false
  pub turns : s.turns ≡ 0
  pub empty : s.empty ≡ none_empty
  pub pending : s.pending ≡ []

-- a table says of each number whether a slot of the list has it
abbrev pub HoldsNumbers : List Bool → List Slot → Type 0
HoldsNumbers present slots = (n : ℕ) → n < 256 → slice_index_or present n false ≡ has_number slots n
