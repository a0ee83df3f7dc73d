-- The spans of marks are those of what groups have, where the marks say who has the pointers of nodes.
use Rattle.std.proofs.Common.{◌≡◌, ℕ, ◌<◌, ◌≤◌, ◌⊎◌, inl, inr, true, ◌&&◌, nat_le, List, length, slice_index}
use Rattle.std.proofs.Common.{refl, sym, ap, ◌∙◌, subst, arith}
use Rattle.std.proofs.lemmas.{Bool.{and_parts, and_from}}
use Rattle.std.specs.{Int.bit_at, Prelude.All}
use Rattle.mm_word.specs.declared.perm.{Perm.{TheVariants.{Key as KeyPerm}}}
use Rattle.mm_word.specs.{Perm.{can_load, can_store}, Pointer.{Pointer, IsBelow, base_of}}
use Rattle.mm_model.specs.declared.word_use.WordUse.{WordUse, TheVariants.{Touch, Write}}
use Rattle.mm_flow.specs.{declared.node.{Node.Node, Right.{Right, TheVariants.{Load, Store}}}, Edges.right_at}
use Rattle.mm_graph.specs.{Summary.IsPowerless, Marked.node_pointer}
use Rattle.mm_graph.specs.{declared.canonical_ptr.CanonicalPtr.CanonicalPtr, Key.{IsKey, key_at, no_key, loads_words, stores_words}}
use Rattle.mm_graph.proofs.{Segments.{below-can_load, below-can_store}, Nesting.log_is, Bounds.{three_then, three}}
use Rattle.mm_seg.specs.Segments.{LiesIn}
use Rattle.mm_audit.specs.declared.span.Span.{Span}
use Rattle.mm_audit.specs.Spans.{IsHeld, Uses, can, mask, span_at, segment_of as span_segment}
use Rattle.mm_audit.specs.{Marks.{kept_mask, span_of, whole_span, IsUsed, IsAmongSpans, SpansOf}, Held.{HasSegment, AreSpansOf}}
use Rattle.mm_audit.proofs.{KeyOrder.key_segment, MarkedSpans.{kept_then, then_kept, some_bit}}
use Rattle.mm_audit.proofs.PointerSegments.{segment_of, lies_below, log_below}

-- the group is marked at a node whose pointer is at or above this one
pub record MarkedAbove (keys : List CanonicalPtr) (marks : List ℕ) (g : ℕ) (q : Pointer) : Type 0 where
  pub node : ℕ
  pub small : node < length keys
  pub marked : bit_at (slice_index marks node) g ≡ 1
  pub below : IsBelow q (node_pointer keys node)

-- the marks say who has the pointers of nodes, and whatever a group has is powerless or below one of these
pub record AreMarksOf (has : ℕ → Pointer → Type 0) (keys : List CanonicalPtr) (nodes : List Node) (marks : List ℕ) : Type 0 where
  pub all : All IsKey keys
  pub loads : (k : ℕ) → k < length keys → right_at nodes Load k ≡ loads_words (node_pointer keys k)
  pub stores : (k : ℕ) → k < length keys → right_at nodes Store k ≡ stores_words (node_pointer keys k)
  pub sound : (g k : ℕ) → k < length keys → bit_at (slice_index marks k) g ≡ 1 → has g (node_pointer keys k)
  pub covers : (g : ℕ) (q : Pointer) → has g q → IsPowerless q ⊎ MarkedAbove keys marks g q

module _ (has : ℕ → Pointer → Type 0) (keys : List CanonicalPtr) (nodes : List Node) (marks : List ℕ) (m : AreMarksOf has keys nodes marks)
    (spans : List Span) (s : SpansOf keys nodes marks 0 (length keys) spans) where
  segment_is : (k : ℕ) → k < length keys → key_segment (key_at keys k) ≡ segment_of (node_pointer keys k)
  segment_is k lt = let h = m.all k no_key lt in λ j. (h.base j, log_is (key_at keys k) h j)

  module _ (how : WordUse) (right : Right) (no_key_right : can how KeyPerm ≡ true → ⊥)
      (below-can : (p q : Pointer) → IsBelow q p → can how q.perm ≡ true → can how p.perm ≡ true)
      (tests : (k : ℕ) → k < length keys → right_at nodes right k ≡ (can how (node_pointer keys k).perm && nat_le 3 (node_pointer keys k).log))
      (node_mask : (k : ℕ) → mask how (span_of keys nodes marks k) ≡ kept_mask (right_at nodes right k) (slice_index marks k))
      (no_mask : mask how (whole_span 0) ≡ 0) (used : (t : Span) → (mask how t ≡ 0 → ⊥) → IsUsed t) (g : ℕ) where
    of_node : (k : ℕ) → k < length keys → bit_at (kept_mask (right_at nodes right k) (slice_index marks k)) g ≡ 1 → HasSegment has g (can how) (key_segment (key_at keys k))
    of_node k lt bit =
        let t = kept_then (right_at nodes right k) (slice_index marks k) g bit in
        let r = and_parts (can how (node_pointer keys k).perm) (nat_le 3 (node_pointer keys k).log) (sym (tests k lt) ∙ t.1) in
        record {
          by = node_pointer keys k;
          held = m.sound g k lt t.0;
          has_right = r.0;
          is = segment_is k lt;
          whole_word = three (node_pointer keys k).log r.1;
        }

    each : (n : ℕ) → n < length spans → Uses spans how n g → HasSegment has g (can how) (span_segment (span_at spans n))
    each n lt uses = elim (s.from n lt) [
      | inl e ↦ absurd
          (some_bit 0 g (subst (λ v. bit_at v g ≡ 1) no_mask (subst (λ v. bit_at (mask how v) g ≡ 1) e uses)) refl)
      | inr o ↦ subst (λ v. HasSegment has g (can how) (span_segment v)) (sym o.is)
          (of_node o.node o.small (subst (λ v. bit_at v g ≡ 1) (node_mask o.node) (subst (λ v. bit_at (mask how v) g ≡ 1) o.is uses)))
    ]

    not_powerless : (q : Pointer) → can how q.perm ≡ true → 3 ≤ q.log → IsPowerless q → ⊥
    not_powerless q c long (inl e) = no_key_right (ap (can how) (sym e) ∙ c)
    not_powerless q c long (inr short) = let lt = short.0 in omega arith

    held_by : (t : Span) (q : ℕ × ℕ) → bit_at (mask how t) g ≡ 1 → LiesIn q (span_segment t) → IsAmongSpans spans t → IsHeld spans how g q
    held_by t q bit within st = record {
      at = st.at;
      small = st.small;
      uses = subst (λ v. bit_at (mask how v) g ≡ 1) (sym st.is) bit;
      within = subst (λ v. LiesIn q (span_segment v)) (sym st.is) within;
    }

    held : (q : Pointer) → has g q → can how q.perm ≡ true → 3 ≤ q.log → IsHeld spans how g (segment_of q)
    held q h c long = from (m.covers g q h)
      where
        from : IsPowerless q ⊎ MarkedAbove keys marks g q → IsHeld spans how g (segment_of q)
        from (inl t) = absurd (not_powerless q c long t)
        from (inr a) =
            let k = a.node in
            let log = log_below (node_pointer keys k) q a.below in
            let r : right_at nodes right k ≡ true = tests k a.small
            ∙ and_from (can how (node_pointer keys k).perm) (nat_le 3 (node_pointer keys k).log)
            (below-can (node_pointer keys k) q a.below c) (three_then (node_pointer keys k).log (omega arith))
            in
            let bit : bit_at (mask how (span_of keys nodes marks k)) g ≡ 1 = subst (λ v. bit_at v g ≡ 1)
            (sym (node_mask k)) (then_kept (right_at nodes right k) (slice_index marks k) g a.marked r)
            in
            held_by (span_of keys nodes marks k) (segment_of q) bit (subst (LiesIn (segment_of q)) (sym (segment_is k a.small)) (lies_below (node_pointer keys k) q a.below))
            (s.each k a.small (used (span_of keys nodes marks k) (some_bit _ g bit)))

  no_load_key : can_load KeyPerm ≡ true → ⊥
  no_load_key h = cc

  no_store_key : can_store KeyPerm ≡ true → ⊥
  no_store_key h = cc

  each_at : (how : WordUse) (g n : ℕ) → n < length spans → Uses spans how n g → HasSegment has g (can how) (span_segment (span_at spans n))
  each_at Touch g = each Touch Load no_load_key below-can_load m.loads (λ k. refl) refl (λ t u. inl u) g
  each_at Write g = each Write Store no_store_key below-can_store m.stores (λ k. refl) refl (λ t u. inr u) g

  held_at : (how : WordUse) (g : ℕ) (p : Pointer) → has g p → can how p.perm ≡ true → 3 ≤ p.log → IsHeld spans how g (base_of p, p.log)
  held_at Touch g = held Touch Load no_load_key below-can_load m.loads (λ k. refl) refl (λ t u. inl u) g
  held_at Write g = held Write Store no_store_key below-can_store m.stores (λ k. refl) refl (λ t u. inr u) g

  pub spans_of_marks : AreSpansOf has spans
  spans_of_marks = record { order = s.order; each = each_at; held = held_at }
