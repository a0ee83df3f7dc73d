-- Groups that are apart if some entries may be made, and what groups see of a run.
use Rattle.std.specs.{Prelude.{◌≡◌, ℕ, Bool, true, false, List, Contains, Some}, List.{flat_map, filter}}
use Rattle.mm_word.specs.declared.word.Cell.{Cell}
use Rattle.mm_model.specs.{Memory.{Memory, page_of, cell_at, is_mapped, zero_cell, IsPaged}, Slot.Slot}
use Rattle.mm_model.specs.{State.{Core, State}, Image.{Image, start}, Groups.own_slots}
use Rattle.mm_model.specs.{Report.{section, groups_of, changes}, Turn.Turned, Run.run, Trace.{group_in, traced}}
use Rattle.mm_model.specs.Reach.{Entries, CanTouch, CanWrite, Privileged, Entries.All}

-- one of the groups can touch the word
pub record Touchable (i : Image) (e : Entries) (c : ℕ → Bool) (w : ℕ) : Type 0 where
  pub group : ℕ
  pub member : c group ≡ true
  pub touches : CanTouch i e group w

-- one of the groups is privileged
pub record IsPrivileged (i : Image) (e : Entries) (c : ℕ → Bool) : Type 0 where
  pub group : ℕ
  pub member : c group ≡ true
  pub privileged : Privileged i e group

-- no group outside can write a word that one of the groups can touch, and no slot has its handler on the other side
pub record Apart (i : Image) (e : Entries) (c : ℕ → Bool) : Type 0 where
  pub writes : (g w : ℕ) → c g ≡ false → CanWrite i e g w → ¬ Touchable i e c w
  pub handlers : (s h : Slot) → Contains i.slots s → Contains i.slots h → s.handler ≡ Some h.number
      → c s.group ≡ c h.group

-- the image without the slots of other groups
unfoldable pub alone : Image → (ℕ → Bool) → Image
alone i c = record i { slots = own_slots c i.slots }

-- the images agree on the groups
pub record Agree (i j : Image) (c : ℕ → Bool) : Type 0 where
  pub version : i.version ≡ j.version
  pub mode : i.split ≡ j.split
  pub slots : own_slots c i.slots ≡ own_slots c j.slots
  pub cells : (w : ℕ) → Touchable i All c w → cell_at i.memory w ≡ cell_at j.memory w
  pub frames : IsPrivileged i All c → i.memory.frames ≡ j.memory.frames

-- the groups' sections of the report: the first part of their view
unfoldable pub sections_of : (ℕ → Bool) → Core → List ℕ
sections_of c core = flat_map (section core) (filter c (groups_of core))

-- the turn is of a slot of the groups
abbrev pub is_turn_of : (ℕ → Bool) → Turned → Bool
is_turn_of c t = c (group_in t)

-- the trace lines of the groups' slots: the second part of their view
unfoldable pub trace_of : (ℕ → Bool) → State → List ℕ → List ℕ
trace_of c s items = traced (is_turn_of c) s items

-- the changed cells at words that pass a test; those at words that the groups can touch are the third part of their
-- view
abbrev pub changes_at : (ℕ → Bool) → Memory → Memory → List (ℕ × Cell)
changes_at passes now image = filter (λ change. passes change.0) (changes now image)

-- The groups see the same of two runs: their sections, their turns, and the changed cells at any words that they can
-- touch.
pub record SameView (i : Image) (s : List ℕ) (j : Image) (t : List ℕ) (c : ℕ → Bool) : Type 0 where
  pub sections : sections_of c (run (start i) s).core ≡ sections_of c (run (start j) t).core
  pub turns : trace_of c (start i) s ≡ trace_of c (start j) t
  pub cells : (passes : ℕ → Bool) → ((w : ℕ) → passes w ≡ true → Touchable i All c w)
      → changes_at passes (run (start i) s).memory i.memory ≡ changes_at passes (run (start j) t).memory j.memory

-- j is the groups' own image: their slots, and each page with a word that they can touch, in which cells that they
-- cannot touch are integer 0, full
pub record Extracts (i : Image) (c : ℕ → Bool) (j : Image) : Type 0 where
  pub version : j.version ≡ i.version
  pub mode : j.split ≡ i.split
  pub slots : j.slots ≡ own_slots c i.slots
  pub frames : j.memory.frames ≡ i.memory.frames
  pub paged : IsPaged j.memory
  pub kept : (w : ℕ) → Touchable i All c w → is_mapped i.memory (page_of w) ≡ true
      → is_mapped j.memory (page_of w) ≡ true
  pub only : (page : ℕ) → is_mapped j.memory page ≡ true → (is_mapped i.memory page ≡ true)
      × ((w : ℕ) × Touchable i All c w × (page_of w ≡ page))
  pub cells : (w : ℕ) → Touchable i All c w → cell_at j.memory w ≡ cell_at i.memory w
  pub others : (w : ℕ) (cell : Cell) → ¬ Touchable i All c w → cell_at j.memory w ≡ Some cell → cell ≡ zero_cell

-- the image as version 2 in a mode
abbrev pub migrated : Image → Bool → Image
migrated i split = record i { version = 2; split = split }
