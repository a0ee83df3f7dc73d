-- All that the nodes of a net reach is granted by their own images.
use Rattle.std.specs.Prelude.{◌≡◌, ◌⊎◌, ℕ, true, false, ◌==◌, if◌then◌else◌, List, [], ◌∷◌, ◌++◌, slice_get, Option}
use Rattle.std.specs.{Prelude.Some, List.All}
use Rattle.mm_word.specs.{Pointer.Pointer, declared.word.Word.{Word, TheVariants.Int}}
use Rattle.mm_model.specs.{Memory.{Memory, cell_at}, State.State, Image.Image, Spelling.IsImage, Run.turn_of}
use Rattle.mm_model.specs.{Trace.done_entry, Fits.{IsState, Fits}, Reach.{Entries, Entries.These}}
use Rattle.mm_laws.specs.Granted.{RunGranted}
use Rattle.mm_net.specs.declared.{link.Link.Link, item.NetItem.{NetItem, TheVariants.{Turn, Send, Carry}}}
use Rattle.mm_net.specs.Nets.{NetState, net_start, net_after, net_run}

-- 1. Turns.

-- the entry that an item does at a node
abbrev pub entry_at : ℕ → NetItem → Option State → List (ℕ × Pointer)
entry_at n (Turn node item) (Some state) =
    if n == node then done_entry (turn_of state item) (turn_of state item).step.entered else []
entry_at n _ _ = []

-- the entries that the turns of a node did, in order
unfoldable pub net_entries : List Link → NetState → List NetItem → ℕ → List (ℕ × Pointer)
net_entries links s [] n = []
net_entries links s (item ∷ items) n =
    entry_at n item (slice_get s.nodes n) ++ net_entries links (net_after links s item) items n

-- a node is in a state that fits the image; its words are granted, and so is all that its next turn touches, enters and
-- changes
pub record GrantedNode (i : Image) (e : Entries) (node : State) : Type 0 where
  pub state : IsState node
  pub fits : Fits i node
  pub granted : RunGranted i e node

-- After every list of items each node is granted in this way, by its own image and under the entries of its own turns.
abbrev pub NodesAreGranted : Type 0
NodesAreGranted =
    (images : List Image) (links : List Link) (items : List NetItem) (n : ℕ) (i : Image) (node : State)
    → All IsImage images
    → slice_get images n ≡ Some i → slice_get (net_run links (net_start images links) items).nodes n ≡ Some node
    → GrantedNode i (These (net_entries links (net_start images links) items n)) node

-- 2. Links.

abbrev pub IsOfALink : NetItem → Type 0
IsOfALink (Turn node item) = ⊥
IsOfALink (Send link) = Unit {0}
IsOfALink (Carry link number) = Unit {0}

-- the cell of a word was full, and is now empty, with the same word
pub record IsEmptied (before after : Memory) (w : ℕ) : Type 0 where
  pub word : Word
  pub was : cell_at before w ≡ Some (record { word = word; full = true })
  pub is : cell_at after w ≡ Some (record { word = word; full = false })

-- the cell of a word was empty, and is now full, with an integer
pub record IsFilled (before after : Memory) (w : ℕ) : Type 0 where
  pub word : Word
  pub bits : ℕ
  pub was : cell_at before w ≡ Some (record { word = word; full = false })
  pub is : cell_at after w ≡ Some (record { word = Int bits; full = true })

-- a node is unchanged but for cells that are emptied, or filled with integers
pub record OnlyIntegersEnter (before after : State) : Type 0 where
  pub core : after.core ≡ before.core
  pub cycles : after.cycles ≡ before.cycles
  pub frames : after.memory.frames ≡ before.memory.frames
  pub cells : (w : ℕ) → (cell_at after.memory w ≡ cell_at before.memory w) ⊎ IsEmptied before.memory after.memory w
      ⊎ IsFilled before.memory after.memory w

-- whatever a link takes or carries, each node is unchanged but for such cells
abbrev pub LinksCarryIntegers : Type 0
LinksCarryIntegers =
    (links : List Link) (s : NetState) (item : NetItem) (n : ℕ) (before after : State) → IsOfALink item
    → slice_get s.nodes n ≡ Some before → slice_get (net_after links s item).nodes n ≡ Some after
    → OnlyIntegersEnter before after
