-- All parts of an image's graph.
use Rattle.std.specs.Prelude.{ℕ, List}
use Rattle.mm_model.specs.{Image.Image, Reach.Entries}
use Rattle.mm_flow.specs.declared.node.Node.{Node}
use Rattle.mm_graph.specs.{declared.canonical_ptr.CanonicalPtr.CanonicalPtr, Found.{page_keys, seeds_of}}
use Rattle.mm_graph.specs.{Nodes.{IsKeysOf, IsNodes, IsTargets, IsMarks, IsLinks}, Masks.IsEntryMasks, Forest.HasForest}

-- the nodes of keys, if these entries may be made
pub record HasNodes (i : Image) (e : Entries) (keys : List CanonicalPtr) (nodes : List Node) : Type 0 where
  pub masks : List ℕ
  pub is_masks : IsEntryMasks e keys masks
  pub is_nodes : IsNodes keys (page_keys i.memory.pages) masks nodes

pub record IsBuilt (i : Image) (e : Entries) (keys : List CanonicalPtr) (nodes : List Node)
    (targets parents links start : List ℕ) : Type 0 where
  pub is_keys : IsKeysOf (page_keys i.memory.pages) (seeds_of i.slots) keys
  pub has_nodes : HasNodes i e keys nodes
  pub is_targets : IsTargets keys (page_keys i.memory.pages) targets
  pub has_forest : HasForest keys parents
  pub is_links : IsLinks i.slots links
  pub is_start : IsMarks keys (seeds_of i.slots) start
