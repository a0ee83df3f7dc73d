-- The spans of an exact summary are those of what is granted.
use Rattle.std.proofs.Common.{◌≡◌, ℕ, ◌<◌, ◌≤◌, ◌↔◌, inl, inr, Bool, true, false, ◌&&◌, nat_le, List, length}
use Rattle.std.proofs.Common.{slice_index, refl, sym, ap, ◌∙◌, subst, arith, eqb-true, eq-eqb}
use Rattle.std.proofs.lemmas.{Bool.{and_parts, and_from}, Nat.Bits.bit_at-zero}
use Rattle.std.specs.Int.{bit_at}
use Rattle.mm_word.specs.declared.{perm.{Perm.{Perm, TheVariants.{Ro, Rw, Key as KeyPerm}}}}
use Rattle.mm_word.specs.{Perm.{can_load, can_store}, Pointer.{Pointer, IsBelow, base_of}}
use Rattle.mm_model.specs.{Image.Image, Flags.in_mask, Spelling.IsImage, Reach.{Entries, Grants, Grants.made}}
use Rattle.mm_model.specs.{Audit.GrantedSegment, declared.word_use.WordUse.{WordUse, TheVariants.{Touch, Write}}}
use Rattle.mm_flow.specs.{declared.node.{Node.Node, Right.{Right, TheVariants.{Load, Store, Make}}}, Edges.right_at}
use Rattle.mm_flow.specs.Reached.{HasSome}
use Rattle.mm_graph.specs.{Summary.{IsPowerless, IsExact, Holds}, GraphOf.Marked}
use Rattle.mm_graph.specs.{declared.canonical_ptr.CanonicalPtr.CanonicalPtr, Key.{key_at, no_key}}
use Rattle.mm_graph.specs.Marked.{IsMarked, node_pointer}
use Rattle.mm_graph.proofs.{Segments.{below-can_load, below-can_store}, Nesting.log_is, Bounds.{three_then, three}}
use Rattle.mm_seg.specs.Segments.{LiesIn}
use Rattle.mm_audit.specs.declared.span.Span.{Span}
use Rattle.mm_audit.specs.Spans.{AreSpans, IsHeld, Uses, can, mask, span_at, segment_of as span_segment}
use Rattle.mm_audit.specs.{Marks.{kept_mask, span_of, whole_span, IsUsed, IsAmongSpans, SpansOf}, Surveys.ArePrivileged}
use Rattle.mm_audit.proofs.{Granted.granted-well_formed, KeyOrder.{key_segment, in_memory}}
use Rattle.mm_audit.proofs.PointerSegments.{segment_of, pointer_segment, lies_below, log_below}

pub kept_then : (b : Bool) (m g : ℕ) → bit_at (kept_mask b m) g ≡ 1 → (bit_at m g ≡ 1) × (b ≡ true)
kept_then true m g h = (h, refl)
kept_then false m g h = absurd (let z = bit_at-zero g in omega arith)

pub then_kept : (b : Bool) (m g : ℕ) → bit_at m g ≡ 1 → b ≡ true → bit_at (kept_mask b m) g ≡ 1
then_kept b m g h e = subst (λ v. bit_at (kept_mask v m) g ≡ 1) (sym e) h

pub some_bit : (m g : ℕ) → bit_at m g ≡ 1 → m ≡ 0 → ⊥
some_bit m g h e = let z = bit_at-zero g in let one : bit_at 0 g ≡ 1 = subst (λ v. bit_at v g ≡ 1) e h in omega arith

module _ (i : Image) (e : Entries) (image : IsImage i) (keys : List CanonicalPtr) (nodes : List Node) (marks : List ℕ) (m : IsMarked i e keys nodes marks) where
  module _ (privileged : ℕ) (rights : (g : ℕ) → (bit_at privileged g ≡ 1) ↔ HasSome marks (right_at nodes Make) g) where
    x : IsExact i e (in_mask privileged) (Marked (node_pointer keys) marks)
    x = m.exact privileged rights

    pub are_privileged : ArePrivileged i e privileged
    are_privileged g = (λ bit. (x.rights g).0 (eq-eqb _ _ bit), λ p. eqb-true _ _ ((x.rights g).1 p))

    module _ (spans : List Span) (s : SpansOf keys nodes marks privileged (length keys) spans) where
      module _ (how : WordUse) (right : Right) (whole : Perm) (can_whole : can how whole ≡ true) (no_key_right : can how KeyPerm ≡ true → ⊥)
          (below-can : (p q : Pointer) → IsBelow q p → can how q.perm ≡ true → can how p.perm ≡ true)
          (tests : (k : ℕ) → k < length keys → right_at nodes right k ≡ (can how (node_pointer keys k).perm && nat_le 3 (node_pointer keys k).log))
          (node_mask : (k : ℕ) → mask how (span_of keys nodes marks k) ≡ kept_mask (right_at nodes right k) (slice_index marks k))
          (whole_mask : mask how (whole_span privileged) ≡ privileged) (used : (t : Span) → (mask how t ≡ 0 → ⊥) → IsUsed t) (g : ℕ) where
        segment_is : (k : ℕ) → k < length keys → key_segment (key_at keys k) ≡ segment_of (node_pointer keys k)
        segment_is k lt = let h = m.all k no_key lt in λ j. (h.base j, log_is (key_at keys k) h j)

        whole_by : Pointer
        whole_by = record { perm = whole; log = 54; addr = 0 }

        granted_whole : bit_at privileged g ≡ 1 → GrantedSegment i e g (can how) (0, 54)
        granted_whole bit =
            let p = (are_privileged g).0 bit in
            record {
              by = record { perm = whole; log = 54; addr = 0 };
              granted = made p.by p.granted p.perm
                  (record { log_in_range = omega arith; addr_in_range = omega arith });
              has_right = can_whole;
              is = refl;
              whole_word = omega arith;
            }

        granted_node : (k : ℕ) → k < length keys → bit_at (kept_mask (right_at nodes right k) (slice_index marks k)) g ≡ 1 → GrantedSegment i e g (can how) (key_segment (key_at keys k))
        granted_node k lt bit =
            let t = kept_then (right_at nodes right k) (slice_index marks k) g bit in
            let r = and_parts (can how (node_pointer keys k).perm) (nat_le 3 (node_pointer keys k).log) (sym (tests k lt) ∙ t.1) in
            record {
              by = node_pointer keys k;
              granted = x.known_granted g (node_pointer keys k) (record { at = k; small = (let l = m.marks_len in omega arith); marked = t.0; is = refl });
              has_right = r.0;
              is = segment_is k lt;
              whole_word = three (node_pointer keys k).log r.1;
            }

        pub granted : (n : ℕ) → n < length spans → Uses spans how n g → GrantedSegment i e g (can how) (span_segment (span_at spans n))
        granted n lt uses = elim (s.from n lt) [
          | inl e2 ↦ subst (λ v. GrantedSegment i e g (can how) (span_segment v)) (sym e2)
              (granted_whole (subst (λ v. bit_at v g ≡ 1) whole_mask (subst (λ v. bit_at (mask how v) g ≡ 1) e2
              uses)))
          | inr o ↦ subst (λ v. GrantedSegment i e g (can how) (span_segment v)) (sym o.is)
              (granted_node o.node o.small (subst (λ v. bit_at v g ≡ 1) (node_mask o.node) (subst (λ v. bit_at (mask how v) g ≡ 1) o.is uses)))
        ]

        not_powerless : (q : Pointer) → can how q.perm ≡ true → 3 ≤ q.log → IsPowerless q → ⊥
        not_powerless q c long (inl e2) = no_key_right (ap (can how) (sym e2) ∙ c)
        not_powerless q c long (inr short) = let lt = short.0 in omega arith

        held_by : (t : Span) (q : ℕ × ℕ) → bit_at (mask how t) g ≡ 1 → LiesIn q (span_segment t) → IsAmongSpans spans t → IsHeld spans how g q
        held_by t q bit within st = record {
          at = st.at;
          small = st.small;
          uses = subst
              (λ v. bit_at (mask how v) g ≡ 1) (sym st.is) bit;
          within = subst (λ v. LiesIn q (span_segment v))
              (sym st.is) within;
        }

        pub held : (q : Pointer) → Grants i e g q → can how q.perm ≡ true → 3 ≤ q.log → IsHeld spans how g (segment_of q)
        held q h c long = from (x.granted_held g q h)
          where
            from : Holds (in_mask privileged) (Marked (node_pointer keys) marks) g q → IsHeld spans how g (segment_of q)
            from (inl t) =
                let bit : bit_at (mask how (whole_span privileged)) g ≡ 1 = subst (λ v. bit_at v g ≡ 1) (sym whole_mask) (eqb-true _ _ t) in
                let top = in_memory (segment_of q) (pointer_segment q (granted-well_formed i e image g q h) long) in
                held_by (whole_span privileged) (segment_of q) bit (omega arith, top) (s.whole (used (whole_span privileged) (some_bit _ g bit)))
            from (inr (inl t)) = absurd (not_powerless q c long t)
            from (inr (inr t)) =
                let k = t.knows in
                let lt : k.at < length keys = (let l = m.marks_len in let u = k.small in omega arith) in
                let b : IsBelow q (node_pointer keys k.at) = subst (IsBelow q) (sym k.is) t.below in
                let log = log_below (node_pointer keys k.at) q b in
                let r : right_at nodes right k.at ≡ true = tests k.at lt
                ∙ and_from (can how (node_pointer keys k.at).perm) (nat_le 3 (node_pointer keys k.at).log)
                (below-can (node_pointer keys k.at) q b c) (three_then (node_pointer keys k.at).log (omega arith))
                in
                let bit : bit_at (mask how (span_of keys nodes marks k.at)) g ≡ 1 = subst (λ v. bit_at v g ≡ 1)
                (sym (node_mask k.at)) (then_kept (right_at nodes right k.at) (slice_index marks k.at) g k.marked r)
                in
                held_by (span_of keys nodes marks k.at) (segment_of q) bit (subst (LiesIn (segment_of q)) (sym (segment_is k.at lt)) (lies_below (node_pointer keys k.at) q b))
                (s.each k.at lt (used (span_of keys nodes marks k.at) (some_bit _ g bit)))

      no_load_key : can_load KeyPerm ≡ true → ⊥
      no_load_key h = cc

      no_store_key : can_store KeyPerm ≡ true → ⊥
      no_store_key h = cc

      granted_at : (how : WordUse) (g n : ℕ) → n < length spans → Uses spans how n g → GrantedSegment i e g (can how) (span_segment (span_at spans n))
      granted_at Touch g = granted Touch Load Ro refl no_load_key below-can_load m.loads (λ k. refl) refl (λ t u. inl u) g
      granted_at Write g = granted Write Store Rw refl no_store_key below-can_store m.stores (λ k. refl) refl (λ t u. inr u) g

      held_at : (how : WordUse) (g : ℕ) (p : Pointer) → Grants i e g p → can how p.perm ≡ true → 3 ≤ p.log → IsHeld spans how g (base_of p, p.log)
      held_at Touch g = held Touch Load Ro refl no_load_key below-can_load m.loads (λ k. refl) refl (λ t u. inl u) g
      held_at Write g = held Write Store Rw refl no_store_key below-can_store m.stores (λ k. refl) refl (λ t u. inr u) g

      pub are_spans : AreSpans i e spans
      are_spans = record { order = s.order; granted = granted_at; held = held_at }
