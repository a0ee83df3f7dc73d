-- The graph of an image, and what its parts say of pointers.
use Rattle.std.specs.Prelude.{◌≡◌, ℕ, ◌%◌, ◌<◌, ◌≤◌, List, slice_index, slice_index_or, length, Option, Some}
use Rattle.mm_word.specs.{declared.word.{Word.TheVariants.Ptr, Cell.Cell}, Pointer.Pointer}
use Rattle.mm_model.specs.{Memory.cell_at, Image.Image, Spelling.IsImage, Reach.Entries.All, Slot.Slot}
use Rattle.mm_graph.specs.{declared.{graph.Graph.Graph, canonical_ptr.CanonicalPtr.CanonicalPtr}, Found.page_keys}
use Rattle.mm_graph.specs.{Nodes.found_word, Parts.IsBuilt}
use Rattle.mm_flow.specs.{Edges.{node_at, Edges}, Flow.Flows}
use Rattle.mm_why.specs.{declared.line.Line.Line, Derivations.line_at, Traces.{IsTrace, Extends}}
use Rattle.mm_why.specs.Searches.{Stage, place_at, AtNode, Advances, IsPlaced, SlotPlaced}

pub record IsGraph (i : Image) (g : Graph) : Type 0 where
  pub image : IsImage i
  pub built : IsBuilt i All g.keys.items g.nodes.items g.targets.items g.parents.items g.links g.start.items
  pub found : g.found.items ≡ page_keys i.memory.pages

-- the cell of the pointer that was found at an index holds this one, and its target stands for it
pub record IsFound (i : Image) (g : Graph) (k : ℕ) (p : Pointer) : Type 0 where
  pub aligned : found_word g.found.items k % 8 ≡ 0
  pub cell : Cell
  pub at : cell_at i.memory (found_word g.found.items k) ≡ Some cell
  pub holds : cell.word ≡ Ptr p
  pub node : AtNode g.keys.items (slice_index g.targets.items k) p

-- the search has gone on, and the targets of the node at indices below `top` have lines
pub record CellsPlaced (i : Image) (g : Graph) (group node top : ℕ) (old new : Stage) : Type 0 where
  pub advances : Advances i g.keys.items group old new
  pub cells : (j : ℕ) → (node_at g.nodes.items node).low ≤ j → j < top
      → IsPlaced new.places (slice_index g.targets.items j)

-- the search has gone on, and the nodes of the pointers of the group's slots among the first have lines
pub record SlotsPlaced (i : Image) (keys : List CanonicalPtr) (group top : ℕ) (old new : Stage) : Type 0 where
  pub advances : Advances i keys group old new
  pub slots : (k : ℕ) (s : Slot) → k < top → slice_index_or i.slots k s ≡ s → s.group ≡ group
      → SlotPlaced keys s new.places

-- no line is of the group
abbrev pub HasNoLine : List Line → ℕ → Type 0
HasNoLine lines group = (k : ℕ) → k < length lines → (line_at lines k).group ≡ group → ⊥

abbrev pub edges_of : Graph → Edges
edges_of g = record { nodes = g.nodes.items; targets = g.targets.items }

-- lines of the group were added, one for each node that the group reaches along edges
pub record IsSearch (i : Image) (g : Graph) (group : ℕ) (old new : List Line) (places : List (Option ℕ)) : Type 0 where
  pub trace : IsTrace i new
  pub extends : Extends old new
  pub only : (t : ℕ) → length old ≤ t → t < length new → (line_at new t).group ≡ group
  pub len : length places ≡ length g.keys.items
  pub placed : (k t : ℕ) → place_at places k ≡ Some t
      → (t < length new) × ((line_at new t).group ≡ group) × AtNode g.keys.items k (line_at new t).pointer
  pub each : (k : ℕ) → Flows (edges_of g) g.start.items group k → IsPlaced places k
