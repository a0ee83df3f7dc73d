-- An image from its parts.
use Rattle.std.specs.{Prelude.{ℕ, ◌≤◌, Bool, List, length}, List.{AllByRecursion, Sorted.IsStrictlyIncreasing}}
use Rattle.mm_word.specs.declared.word.Cell.{Cell}
use Rattle.mm_model.specs.{Slot.Slot, Memory.IsPaged, Image.{Image, slot_limit, frame_limit}}
use Rattle.mm_model.specs.Spelling.{numbers_of, IsFresh, HoldsWords}

-- the image of these parts
abbrev pub image_from : ℕ → Bool → List Slot → List (ℕ × List Cell) → ℕ → Image
image_from version split slots pages frames =
    record { version = version; split = split; slots = slots; memory = record { pages = pages; frames = frames } }

-- the slots fit an image of this version
pub record SlotsFit (version : ℕ) (slots : List Slot) : Type 0 where
  pub some : 1 ≤ length slots
  pub few : length slots ≤ slot_limit version
  pub rising : IsStrictlyIncreasing (numbers_of slots)
  pub fresh : AllByRecursion (IsFresh (slot_limit version) slots) slots

-- the pages and frames fit an image of this version
pub record MemoryFits (version : ℕ) (pages : List (ℕ × List Cell)) (frames : ℕ) : Type 0 where
  pub some : 1 ≤ frames
  pub few : frames ≤ frame_limit version
  pub paged : IsPaged (record { pages = pages; frames = frames })
  pub words : AllByRecursion HoldsWords pages
