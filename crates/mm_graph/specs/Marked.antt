-- The marks of an image's graph.
use Rattle.std.specs.{Prelude.{◌≡◌, ℕ, ◌^◌, ◌<◌, ◌↔◌, List, length, slice_index, All}, Int.bit_at}
use Rattle.mm_word.specs.Pointer.{Pointer}
use Rattle.mm_model.specs.{Image.Image, Flags.in_mask, Reach.Entries}
use Rattle.mm_flow.specs.{declared.node.{Node.Node, Right.TheVariants.{Load, Store, Make}}, Edges.right_at}
use Rattle.mm_flow.specs.Reached.{HasSome}
use Rattle.mm_graph.specs.{Summary.IsExact, GraphOf.Marked, declared.canonical_ptr.CanonicalPtr.CanonicalPtr}
use Rattle.mm_graph.specs.Key.{IsKey, IsRising, key_at, pointer_at, loads_words, stores_words}

-- the pointer of a node
abbrev pub node_pointer : List CanonicalPtr → ℕ → Pointer
node_pointer keys k = pointer_at (key_at keys k)

-- each group's marks are an exact summary of what it is granted
pub record IsMarked (i : Image) (e : Entries) (keys : List CanonicalPtr) (nodes : List Node)
    (marks : List ℕ) : Type 0 where
  pub rising : IsRising keys
  pub all : All IsKey keys
  pub nodes_len : length nodes ≡ length keys
  pub marks_len : length marks ≡ length keys
  pub fits : (k : ℕ) → slice_index marks k < 2 ^ 64
  pub loads : (k : ℕ) → k < length keys → right_at nodes Load k ≡ loads_words (node_pointer keys k)
  pub stores : (k : ℕ) → k < length keys → right_at nodes Store k ≡ stores_words (node_pointer keys k)
  pub exact : (rights : ℕ) → ((g : ℕ) → (bit_at rights g ≡ 1) ↔ HasSome marks (right_at nodes Make) g)
      → IsExact i e (in_mask rights) (Marked (node_pointer keys) marks)
