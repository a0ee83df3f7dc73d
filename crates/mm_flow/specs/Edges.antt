-- A graph: nodes, each with the nodes to which it leads.
use Rattle.std.specs.Prelude.{ℕ, Bool, false, List, slice_index_or}
use Rattle.mm_flow.specs.declared.node.{Node.Node, Right.{Right, TheVariants.{Load, Store, Make}}}

-- the node past the end of a list
abbrev pub no_node : Node
no_node = record { low = 0; high = 0; entry = 0; enters = 0; loads = false; stores = false; makes = false }

abbrev pub node_at : List Node → ℕ → Node
node_at nodes k = slice_index_or nodes k no_node

abbrev pub has_right : Right → Node → Bool
has_right Load n = n.loads
has_right Store n = n.stores
has_right Make n = n.makes

-- node k leads to the targets at indices from its `low` up to its `high`, and to its `entry` for the groups that it
-- enters for
pub record Edges : Type 0 where
  pub nodes : List Node
  pub targets : List ℕ

-- the parent of a node is the nearest one above it, and the node itself or a later one if there is none; by a link a
-- group shares all that it has with the groups of a mask
pub record SharingEdges : Type 0 where
  pub nodes : List Node
  pub parents : List ℕ
  pub links : List ℕ

abbrev pub low_at : Edges → ℕ → ℕ
low_at n k = (node_at n.nodes k).low

abbrev pub high_at : Edges → ℕ → ℕ
high_at n k = (node_at n.nodes k).high

abbrev pub entry_at : Edges → ℕ → ℕ
entry_at n k = (node_at n.nodes k).entry

abbrev pub enters_at : Edges → ℕ → ℕ
enters_at n k = (node_at n.nodes k).enters

-- whether the node has the right
abbrev pub right_at : List Node → Right → ℕ → Bool
right_at nodes right k = has_right right (node_at nodes k)
