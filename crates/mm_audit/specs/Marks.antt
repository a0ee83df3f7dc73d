-- The spans that the marks of nodes give.
use Rattle.std.specs.Prelude.{◌≡◌, ◌≢◌, ℕ, ◌-◌, ◌<◌, ◌⊎◌, Bool, if◌then◌else◌, List, [], ◌∷◌, ◌++◌, length, slice_index}
use Rattle.mm_flow.specs.{declared.node.Node.Node, Edges.node_at}
use Rattle.mm_graph.specs.{declared.canonical_ptr.CanonicalPtr.CanonicalPtr, Key.key_at}
use Rattle.mm_audit.specs.{declared.span.Span.Span, Spans.{span_at, AreInOrder}}

abbrev pub kept_mask : Bool → ℕ → ℕ
kept_mask keep mask = if keep then mask else 0

-- the segment of a node, with the groups that touch it and those that write it by the node's pointer
abbrev pub node_span : CanonicalPtr → Node → ℕ → Span
node_span k n mark =
    record { base = k.base; touch = kept_mask n.loads mark; write = kept_mask n.stores mark; log = 54 - k.narrow }

abbrev pub span_of : List CanonicalPtr → List Node → List ℕ → ℕ → Span
span_of keys nodes marks k = node_span (key_at keys k) (node_at nodes k) (slice_index marks k)

-- the span of the whole memory
abbrev pub whole_span : ℕ → Span
whole_span groups = record { base = 0; touch = groups; write = groups; log = 54 }

-- a group uses the span
abbrev pub IsUsed : Span → Type 0
IsUsed s = (s.touch ≢ 0) ⊎ (s.write ≢ 0)

-- the span was added, if a group uses it
abbrev pub Added : Span → List Span → List Span → Type 0
Added s old new = (IsUsed s × (new ≡ old ++ s ∷ [])) ⊎ ((¬ IsUsed s) × (new ≡ old))

-- the span is that of one of the first `top` nodes
pub record OfNode (keys : List CanonicalPtr) (nodes : List Node) (marks : List ℕ) (top : ℕ) (s : Span) : Type 0 where
  pub node : ℕ
  pub small : node < top
  pub used : IsUsed s
  pub is : s ≡ span_of keys nodes marks node

-- the span is in the list
pub record IsAmongSpans (spans : List Span) (s : Span) : Type 0 where
  pub at : ℕ
  pub small : at < length spans
  pub is : span_at spans at ≡ s

-- the spans are that of the whole memory for the privileged groups, and those of the first `top` nodes, in their order
pub record SpansOf (keys : List CanonicalPtr) (nodes : List Node) (marks : List ℕ) (privileged top : ℕ)
    (spans : List Span) : Type 0 where
  pub order : AreInOrder spans
  pub from : (n : ℕ) → n < length spans
      → (span_at spans n ≡ whole_span privileged) ⊎ OfNode keys nodes marks top (span_at spans n)
  pub whole : IsUsed (whole_span privileged) → IsAmongSpans spans (whole_span privileged)
  pub each : (k : ℕ) → k < top → IsUsed (span_of keys nodes marks k) → IsAmongSpans spans (span_of keys nodes marks k)
