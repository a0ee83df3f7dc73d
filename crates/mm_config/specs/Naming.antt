-- What names are of: cells and pages, slots, queues and outputs, and whole configurations.
use Rattle.std.specs.Prelude.{◌≡◌, ℕ, zero, suc, ◌+◌, ◌<◌, ◌≤◌, ◌^◌, List, [], ◌∷◌, length, zip, reverse}
use Rattle.std.specs.Prelude.{slice_get, slice_index_or, Option, None, Some}
use Rattle.std.specs.List.{AllZip}
use Rattle.mm_word.specs.declared.word.Cell.{Cell}
use Rattle.mm_model.specs.{declared.event.Event.Event, Image.Image, Memory.{Memory, page_at, zero_cell}, Slot.Slot}
use Rattle.mm_model.specs.{Fits.slots_of, Spelling.IsImage, State.{State, ThreadRow}}
use Rattle.mm_pairs.specs.{Named.{HaveOneName, IsNameOf}, Trees.{pair_of, leaves, IsTree}}
use Rattle.mm_config.specs.declared.{store.Store.Store, names.Names.Names}
use Rattle.mm_config.specs.{Configurations.configuration, Forms.{slot_form, queue_form}, Places.{page_place, HaveOnePlace}}
use Rattle.mm_config.specs.States.{IsStateOf}

-- 1. Parts.

-- the name of a slot
abbrev pub IsSlotName : Store → (base s : Slot) → ℕ → Type 0
IsSlotName k base s name = IsNameOf [] k.lists name (slot_form base s)

abbrev pub IsQueueName : Store → List Event → ℕ → Type 0
IsQueueName k events name = IsNameOf [] k.lists name (queue_form events)

-- the name of bytes, the last first: that of those before, and one more than the last
abbrev pub IsChain : List (ℕ × ℕ) → List ℕ → ℕ → Type 0
IsChain pairs [] name = name ≡ 0
IsChain pairs (byte ∷ before) name =
    (shorter : ℕ) × IsNameOf (0, 0) pairs name (shorter, byte + 1) × (shorter < name) × IsChain pairs before shorter

abbrev pub IsOutputName : Store → List ℕ → ℕ → Type 0
IsOutputName k bytes name = IsChain k.outputs (reverse bytes) name

-- the leaves of a tree are names of these cells
pub record AreCells (k : Store) (depth tree : ℕ) (cells : List Cell) : Type 0 where
  pub inner : IsTree k.pairs depth tree
  pub names : AllZip (λ cell leaf. IsNameOf zero_cell k.cells leaf cell) cells (leaves k.pairs depth tree)

-- the name of a page of these cells: that of the pair of 1 and of the tree of its cells
pub record IsPageName (k : Store) (cells : List Cell) (name : ℕ) : Type 0 where
  pub tree : ℕ
  pub is : IsNameOf (0, 0) k.pairs name (1, tree)
  pub named : AreCells k 9 tree cells

-- 2. Trees of names.

-- the name of this, or 0 if there is nothing
abbrev pub IsOrNone : {A : Type 0} → (A → ℕ → Type 0) → Option A → ℕ → Type 0
IsOrNone Is None name = name ≡ 0
IsOrNone Is (Some x) name = Is x name

-- a leaf of a tree; past the last there is 0
abbrev pub leaf_at : List (ℕ × ℕ) → (depth tree at : ℕ) → ℕ
leaf_at pairs depth tree at = slice_index_or (leaves pairs depth tree) at 0

-- the leaves of a tree are names of these
pub record AreLeaves {A : Type 0} (Is : A → ℕ → Type 0) (xs : List A) (pairs : List (ℕ × ℕ)) (depth tree : ℕ) : Type 0 where
  pub inner : IsTree pairs depth tree
  pub wide : length xs ≤ 2 ^ depth
  pub each : (at : ℕ) → IsOrNone Is (slice_get xs at) (leaf_at pairs depth tree at)

-- the name of the page of a number
abbrev pub page_name : Store → Names → ℕ → ℕ
page_name k n number = leaf_at k.pairs n.height n.pages (page_place k.pages number)

-- the tree of pages is no deeper than its last page asks
abbrev pub IsLow : List (ℕ × ℕ) → (height tree : ℕ) → Type 0
IsLow pairs zero tree = Unit {0}
IsLow pairs (suc height) tree = (pair_of pairs tree).1 ≡ 0 → ⊥

-- a tree of pages, in which nothing has a place past the last page
pub record IsTreeOfPages (k : Store) (n : Names) : Type 0 where
  pub inner : IsTree k.pairs n.height n.pages
  pub few : n.height ≤ 32
  pub low : IsLow k.pairs n.height n.pages
  pub inside : (at : ℕ) → length k.pages ≤ at → leaf_at k.pairs n.height n.pages at ≡ 0

-- the tree of pages is that of a memory
pub record AreMemoryNames (k : Store) (m : Memory) (n : Names) : Type 0 where
  pub tree : IsTreeOfPages k n
  pub pages : (number : ℕ) → IsOrNone (IsPageName k) (page_at m number) (page_name k n number)

-- 3. Configurations.

pub record AreNamesOf (base : List Slot) (depth : ℕ) (k : Store) (c : State) (n : Names) : Type 0 where
  pub slots : AreLeaves (λ (x : Slot × Slot) name. IsSlotName k x.0 x.1 name) (zip base (slots_of c.core)) k.pairs depth n.slots
  pub queues : AreLeaves (λ (row : ThreadRow) name. IsQueueName k row.queue name) c.core.rows k.pairs depth n.queues
  pub outputs : AreLeaves (IsOutputName k) c.core.outputs k.pairs 6 n.outputs
  pub memory : AreMemoryNames k c.memory n

-- the name of all of a configuration's names but that of the slots
pub record IsRest (pairs : List (ℕ × ℕ)) (n : Names) (rest : ℕ) : Type 0 where
  pub two : ℕ
  pub others : ℕ
  pub events : IsNameOf (0, 0) pairs two (n.queues, n.outputs)
  pub depth : IsNameOf (0, 0) pairs others (two, n.height)
  pub all : IsNameOf (0, 0) pairs rest (others, n.pages)

-- each part has one name, and each page one place
pub record IsKeptOnce (k : Store) : Type 0 where
  pub pairs : HaveOneName (0, 0) k.pairs
  pub outputs : HaveOneName (0, 0) k.outputs
  pub lists : HaveOneName [] k.lists
  pub cells : HaveOneName zero_cell k.cells
  pub pages : HaveOnePlace k.pages

-- a law: names are the same exactly if they are of one configuration
abbrev pub NamesAreOfOne : Type 0
NamesAreOfOne = (i : Image) (depth : ℕ) (k : Store) (a b : State) (n m : Names) → IsImage i → IsKeptOnce k
    → IsStateOf i a → IsStateOf i b → AreNamesOf i.slots depth k a n → AreNamesOf i.slots depth k b m
    → ((n ≡ m) → configuration a ≡ configuration b) × (configuration a ≡ configuration b → n ≡ m)
