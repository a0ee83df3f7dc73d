-- The lines so far, and which groups were searched.
use Rattle.std.specs.Prelude.{◌≡◌, ℕ, ◌<◌, true, List, length, slice_index_or, Option, Some, None}
use Rattle.mm_word.specs.{declared.perm.Perm.TheVariants.Rw, Pointer.Pointer}
use Rattle.mm_model.specs.Image.{Image}
use Rattle.mm_flow.specs.{declared.node.Right.Right, Edges.right_at, Flow.Flows}
use Rattle.mm_graph.specs.declared.graph.Graph.{Graph}
use Rattle.mm_why.specs.{declared.{line.Line.Line, search.NodeLines.NodeLines, work.Workspace.Workspace}, Derivations.line_at}
use Rattle.mm_why.specs.{Traces.{IsTrace, Extends}, Searches.{place_at, IsPlaced, AtNode}, Graphs.edges_of}

abbrev pub search_at : List (Option NodeLines) → ℕ → Option NodeLines
search_at searches h = slice_index_or searches h None

-- the group was searched
abbrev pub IsKnown : Workspace → ℕ → Type 0
IsKnown w h = (s : NodeLines) × (search_at w.searches.items h ≡ Some s)

-- the places are those of the lines of a group that was searched
pub record IsSearched (g : Graph) (lines : List Line) (group : ℕ) (places : List (Option ℕ)) : Type 0 where
  pub len : length places ≡ length g.keys.items
  pub placed : (k t : ℕ) → place_at places k ≡ Some t
      → (t < length lines) × ((line_at lines t).group ≡ group) × AtNode g.keys.items k (line_at lines t).pointer
  pub each : (k : ℕ) → Flows (edges_of g) g.start.items group k → IsPlaced places k

-- each line follows, and each group with a line was searched
pub record IsWork (i : Image) (g : Graph) (w : Workspace) : Type 0 where
  pub trace : IsTrace i w.lines.items
  pub len : length w.searches.items ≡ 64
  pub known : (h : ℕ) (s : NodeLines) → search_at w.searches.items h ≡ Some s → IsSearched g w.lines.items h s.lines.items
  pub owned : (t : ℕ) → t < length w.lines.items → IsKnown w (line_at w.lines.items t).group

-- the work has gone on
pub record GoesOn (i : Image) (g : Graph) (old new : Workspace) : Type 0 where
  pub work : IsWork i g new
  pub lines : Extends old.lines.items new.lines.items
  pub known : (h : ℕ) → IsKnown old h → IsKnown new h

-- the pointer that reads and writes the whole memory
abbrev pub whole_pointer : Pointer
whole_pointer = record { perm = Rw; log = 54; addr = 0 }

-- the group reaches a node with the right along edges
pub record ReachesRight (g : Graph) (group : ℕ) (right : Right) : Type 0 where
  pub node : ℕ
  pub small : node < length g.keys.items
  pub reached : Flows (edges_of g) g.start.items group node
  pub has : right_at g.nodes.items right node ≡ true

-- the line has a pointer of the group for which a node with the right stands
pub record HasRightAt (g : Graph) (lines : List Line) (group : ℕ) (right : Right) (k : ℕ) : Type 0 where
  pub node : ℕ
  pub earlier : k < length lines
  pub group_is : (line_at lines k).group ≡ group
  pub at : AtNode g.keys.items node (line_at lines k).pointer
  pub has : right_at g.nodes.items right node ≡ true
