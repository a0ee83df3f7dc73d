-- The laws of summaries.
use Rattle.std.specs.{Prelude.{◌≡◌, ℕ, ◌<◌, ◌^◌, ◌↔◌, Bool, List, slice_index, Contains}, Int.bit_at}
use Rattle.mm_flow.specs.{declared.node.Right.TheVariants.Make, Edges.{Edges, SharingEdges, right_at}}
use Rattle.mm_flow.specs.Reached.{HasSome, IsReach}
use Rattle.mm_graph.specs.{GraphOf.{IsGraphOf, Marked}, Summary.{IsClosed, IsSound, IsExact}}
use Rattle.mm_word.specs.Pointer.{Pointer}
use Rattle.mm_model.specs.{Image.Image, Flags.in_mask, Reach.Entries}

-- a summary of granted pointers to which no rule adds is exact
abbrev pub SummariesDecide : Type 0
SummariesDecide = (i : Image) (e : Entries) (privileged : ℕ → Bool) (known : ℕ → List Pointer)
    → IsSound i e privileged (λ g p. Contains (known g) p) → IsClosed i e privileged (λ g p. Contains (known g) p)
    → IsExact i e privileged (λ g p. Contains (known g) p)

-- the marks of a graph that stands for an image are an exact summary of it
abbrev pub GraphsDecide : Type 0
GraphsDecide = (i : Image) (e : Entries) (node : ℕ → Pointer) (n : Edges) (t : SharingEdges) (start marks : List ℕ)
    (rights : ℕ) → IsGraphOf i e node n t start → IsReach n t start marks
    → ((k : ℕ) → slice_index marks k < 2 ^ 64)
    → ((g : ℕ) → (bit_at rights g ≡ 1) ↔ HasSome marks (right_at t.nodes Make) g)
    → IsExact i e (in_mask rights) (Marked node marks)
