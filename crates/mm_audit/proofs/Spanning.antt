-- The spans of nodes, with one node more.
use Rattle.std.proofs.Common.{◌≡◌, ℕ, ◌+◌, ◌<◌, ◌≤◌, ◌⊎◌, inl, inr, List, [], ◌∷◌, ◌++◌, length, length-append, refl}
use Rattle.std.proofs.{Common.{sym, ap, ◌∙◌, subst, arith}, lemmas.List.{get_or_append_left, get_or_push}}
use Rattle.std.specs.List.{All}
use Rattle.mm_flow.specs.declared.node.Node.{Node}
use Rattle.mm_seg.{specs.Segments.{IsSegment, end_of}, proofs.Searches.same_or_below}
use Rattle.mm_graph.specs.declared.canonical_ptr.CanonicalPtr.{CanonicalPtr}
use Rattle.mm_graph.{specs.Key.{IsKey, IsRising, key_at, no_key, pointer_at}, proofs.Nesting.base_rises}
use Rattle.mm_audit.specs.{declared.span.Span.Span, Spans.{AreInOrder, segment_of, span_at, no_span, base_at, end_at}}
use Rattle.mm_audit.specs.Marks.{span_of, whole_span, IsUsed, Added, OfNode, IsAmongSpans, SpansOf}
use Rattle.mm_audit.proofs.KeyOrder.{key_segment, key_is_segment, end_nests, in_memory}

abbrev pub Rises : Span → Span → Type 0
Rises s t = s.base ≤ t.base

abbrev pub Nests : Span → Span → Type 0
Nests s t = t.base < end_of (segment_of s) → end_of (segment_of t) ≤ end_of (segment_of s)

along : (P : Span → Span → Type 0) (a b c d : Span) → a ≡ b → c ≡ d → P b d → P a c
along P a b c d e f h = subst (λ v. P v c) (sym e) (subst (P b) (sym f) h)

module _ (spans : List Span) (s : Span) where
  pub span_last : (n : ℕ) → n ≡ length spans → span_at (spans ++ s ∷ []) n ≡ s
  span_last n e = get_or_push spans s no_span n (sym e)

  pub span_before : (n : ℕ) → n < length spans → span_at (spans ++ s ∷ []) n ≡ span_at spans n
  span_before n lt = get_or_append_left spans (s ∷ []) no_span n lt

  pub one_longer : length (spans ++ s ∷ []) ≡ length spans + 1
  one_longer = let e = length-append spans (s ∷ []) in omega arith

  pub stands_still : (t : Span) → IsAmongSpans spans t → IsAmongSpans (spans ++ s ∷ []) t
  stands_still t h = record { at = h.at; small = (let a = h.small in let b = one_longer in omega arith); is = span_before h.at h.small ∙ h.is }

  pub stands_last : IsAmongSpans (spans ++ s ∷ []) s
  stands_last = record { at = length spans; small = (let b = one_longer in omega arith); is = span_last (length spans) refl }

  -- a span that begins behind all others, and nests
  pub pushed_order : AreInOrder spans → IsSegment (segment_of s) → ((m : ℕ) → m < length spans → base_at spans m ≤ s.base)
      → ((m : ℕ) → m < length spans → s.base < end_at spans m → end_of (segment_of s) ≤ end_at spans m) → AreInOrder (spans ++ s ∷ [])
  pushed_order o seg rise nested = record {
    segments = λ n lt. elim (same_or_below n (length spans) (let l = one_longer in omega arith)) [
      | inl less ↦ subst (λ v. IsSegment (segment_of v)) (sym (span_before n less)) (o.segments n less)
      | inr e ↦ subst (λ v. IsSegment (segment_of v)) (sym (span_last n e)) seg
    ];
    rise = λ m n lt small. elim (same_or_below n (length spans) (let l = one_longer in omega arith)) [
      | inl less ↦ along Rises _ _ _ _ (span_before m (omega arith)) (span_before n less) (o.rise m n lt less)
      | inr e ↦ along Rises _ _ _ _ (span_before m (omega arith)) (span_last n e) (rise m (omega arith))
    ];
    nested = λ m n lt small. elim (same_or_below n (length spans) (let l = one_longer in omega arith)) [
      | inl less ↦ along Nests _ _ _ _ (span_before m (omega arith)) (span_before n less) (o.nested m n lt less)
      | inr e ↦ along Nests _ _ _ _ (span_before m (omega arith)) (span_last n e) (nested m (omega arith))
    ];
  }

none_in_order : AreInOrder []
none_in_order = record { segments = λ n lt. absurd (omega arith); rise = λ m n lt small. absurd (omega arith); nested = λ m n lt small. absurd (omega arith) }

module _ (keys : List CanonicalPtr) (nodes : List Node) (marks : List ℕ) (privileged : ℕ) where
  -- the whole memory, before any node
  pub spans_first : (new : List Span) → Added (whole_span privileged) [] new → SpansOf keys nodes marks privileged 0 new
  spans_first new (inl a) = subst (SpansOf keys nodes marks privileged 0) (sym a.1) (record {
    order = pushed_order [] (whole_span privileged) none_in_order
        (record { low = omega arith; high = omega arith; aligned = refl; below = omega arith })
        (λ m lt. absurd (omega arith)) (λ m lt. absurd (omega arith));
    from = λ n lt. inl (span_last [] (whole_span privileged) n (let l = one_longer [] (whole_span privileged) in omega arith));
    whole = λ u. stands_last [] (whole_span privileged);
    each = λ k lt. absurd (omega arith);
  })
  spans_first new (inr a) = subst (SpansOf keys nodes marks privileged 0) (sym a.1)
      (record {
        order = none_in_order;
        from = λ n lt. absurd (omega arith);
        whole = λ u. absurd (a.0 u);
        each = λ k lt.
            absurd (omega arith);
      })

  module _ (rising : IsRising keys) (all : All IsKey keys) (words : (k : ℕ) → k < length keys → IsUsed (span_of keys nodes marks k) → 3 ≤ (pointer_at (key_at keys k)).log)
      (k : ℕ) (lt : k < length keys) (spans : List Span) (h : SpansOf keys nodes marks privileged k spans) where
    wider : (s : Span) → OfNode keys nodes marks k s → OfNode keys nodes marks (k + 1) s
    wider s x = record { node = x.node; small = (let l = x.small in omega arith); used = x.used; is = x.is }

    segment : IsUsed (span_of keys nodes marks k) → IsSegment (key_segment (key_at keys k))
    segment u = key_is_segment (key_at keys k) (all k no_key lt) (words k lt u)

    rises : (m : ℕ) → m < length spans → base_at spans m ≤ (key_at keys k).base
    rises m less = elim (h.from m less) [
      | inl e ↦ let zero_base = ap (λ (v : Span). v.base) e in omega arith
      | inr o ↦ subst (λ (v : Span). v.base ≤ (key_at keys k).base) (sym o.is) (base_rises (key_at keys o.node) (key_at keys k) (rising.rise o.node k o.small lt))
    ]

    nests : IsUsed (span_of keys nodes marks k) → (m : ℕ) → m < length spans → (key_at keys k).base < end_at spans m → end_of (key_segment (key_at keys k)) ≤ end_at spans m
    nests u m less = elim (h.from m less) [
      | inl e ↦ subst (λ v. (key_at keys k).base < end_of (segment_of v) → end_of (key_segment (key_at keys k)) ≤ end_of
          (segment_of v)) (sym e) (λ inside. in_memory (key_segment (key_at keys k)) (segment u))
      | inr o ↦ subst (λ v. (key_at keys k).base < end_of (segment_of v) → end_of (key_segment (key_at keys k)) ≤ end_of
          (segment_of v)) (sym o.is) (end_nests (key_at keys o.node) (key_at keys k) (rising.rise o.node k o.small lt)
          (all o.node no_key (let l = o.small in omega arith)) (all k no_key lt))
    ]

    pub spans_more : (new : List Span) → Added (span_of keys nodes marks k) spans new → SpansOf keys nodes marks privileged (k + 1) new
    spans_more new (inl a) = subst (SpansOf keys nodes marks privileged (k + 1)) (sym a.1) (record {
      order = pushed_order spans (span_of keys nodes marks k) h.order (segment a.0) rises (nests a.0);
      from = λ n small. elim (same_or_below n (length spans) (let l = one_longer spans (span_of keys nodes marks k) in omega arith)) [
        | inl less ↦ subst (λ v. (v ≡ whole_span privileged) ⊎ OfNode keys nodes marks (k + 1) v)
            (sym (span_before spans (span_of keys nodes marks k) n less))
            (elim (h.from n less) [ inl e ↦ inl e | inr o ↦ inr (wider (span_at spans n) o) ])
        | inr e ↦ subst (λ v. (v ≡ whole_span privileged) ⊎ OfNode keys nodes marks (k + 1) v)
            (sym (span_last spans (span_of keys nodes marks k) n e))
            (inr (record { node = k; small = omega arith; used = a.0; is = refl }))
      ];
      whole = λ u. stands_still spans (span_of keys nodes marks k) (whole_span privileged) (h.whole u);
      each = λ n small u. elim (same_or_below n k small) [
        | inl less ↦ stands_still spans (span_of keys nodes marks k) (span_of keys nodes marks n) (h.each n less u)
        | inr e ↦ subst (λ v. IsAmongSpans (spans ++ span_of keys nodes marks k ∷ []) (span_of keys nodes marks v)) (sym e) (stands_last spans (span_of keys nodes marks k))
      ];
    })
    spans_more new (inr a) = subst (SpansOf keys nodes marks privileged (k + 1)) (sym a.1) (record {
      order = h.order;
      from = λ n less. elim (h.from n less) [ inl e ↦ inl e | inr o ↦ inr (wider (span_at spans n) o) ];
      whole = h.whole;
      each = λ n small u. elim (same_or_below n k small) [
        | inl less ↦ h.each n less u
        | inr e ↦ absurd (a.0 (subst (λ v. IsUsed (span_of keys nodes marks v)) e u))
      ];
    })
