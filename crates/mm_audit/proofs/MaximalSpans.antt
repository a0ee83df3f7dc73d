-- The outermost spans of a group are the maximal segments of what it has.
use Rattle.std.proofs.Common.{◌≡◌, ℕ, suc, ◌+◌, ◌%◌, ◌^◌, ◌<◌, ◌≤◌, ◌↔◌, inl, inr, true, List, [], ◌∷◌, length, zip}
use Rattle.std.proofs.Common.{drop, sym, ap, ◌∙◌, subst, arith, pow_pos, eqb-true, eq-eqb}
use Rattle.std.proofs.lemmas.{Bool.cases_lt, List.{get_or_default, Elements.Contains-get_or}}
use Rattle.std.specs.List.{Contains, AllByRecursion}
use Rattle.mm_seg.{proofs.Commons.some_in, specs.Segments.{IsSet, SomeHolds, Covered, At, LiesIn, segment_at, end_of}}
use Rattle.mm_word.{specs.Pointer.{Pointer, InSegment, Covers, base_of}, proofs.Below.Covers-short}
use Rattle.mm_model.specs.declared.word_use.WordUse.{WordUse}
use Rattle.mm_graph.proofs.Bounds.{covers_in, in_covers}
use Rattle.mm_audit.specs.{declared.span.Span.Span, Spans.{Uses, can, mask, span_at, base_at, end_at}}
use Rattle.mm_audit.specs.{Held.{CanUse, HasSegment, IsMaximal, AreMaximal, AreSpansOf}, Walks.outermost}
use Rattle.mm_audit.proofs.{Bits.one_test, Outermost.{is_of, from_spans, outermost_set, outermost_holds}}
use Rattle.mm_audit.proofs.PointerSegments.{segment_of, between, in_by, shorter}

-- the group uses a span that has the word
pub record UsedSpan (spans : List Span) (how : WordUse) (g w : ℕ) : Type 0 where
  pub at : ℕ
  pub small : at < length spans
  pub uses : Uses spans how at g
  pub low : base_at spans at ≤ w
  pub high : w < end_at spans at

rises : (xs : List (ℕ × ℕ)) → ((k : ℕ) → k + 1 < length xs → (segment_at xs k).0 < (segment_at xs (k + 1)).0) → AllByRecursion (λ (pair : (ℕ × ℕ) × (ℕ × ℕ)). pair.0.0 < pair.1.0) (zip xs (drop 1 xs))
rises [] h = tt
rises (x ∷ []) h = tt
rises (x ∷ y ∷ zs) h =
    (h 0 (omega arith), rises (y ∷ zs) (λ k lt. let e : suc k + 1 ≡ suc (k + 1) = omega arith in subst (λ v. (segment_at (y ∷ zs) k).0 < (segment_at (x ∷ y ∷ zs) v).0) e (h (suc k) (omega arith))))

module _ (has : ℕ → Pointer → Type 0) (spans : List Span) (a : AreSpansOf has spans) (how : WordUse) where
  -- 1. Words.

  long_of : (p : Pointer) (w : ℕ) → Covers p w → 3 ≤ p.log
  long_of p w c = elim (cases_lt p.log 3) [ inl short ↦ absurd (Covers-short p short w c) | inr le ↦ le ]

  pub use_span : (g w : ℕ) → CanUse has how g w → UsedSpan spans how g w
  use_span g w u =
      let h = a.held how g u.by u.held u.right (long_of u.by w u.covers) in
      let b = covers_in u.by w u.covers in
      record { at = h.at; small = h.small; uses = h.uses; low = (let p = h.within.0 in let q = b.0 in omega arith); high = (let p = h.within.1 in let q = b.1 in omega arith) }

  pub span_use : (g w : ℕ) → w % 8 ≡ 0 → UsedSpan spans how g w → CanUse has how g w
  span_use g w aligned u =
      let gs = a.each how g u.at u.small u.uses in
      record {
        by = gs.by;
        held = gs.held;
        word = aligned;
        right = gs.has_right;
        covers = in_covers gs.by w gs.whole_word aligned (subst (λ v. v.0 ≤ w) gs.is u.low) (subst (λ v. w < end_of v) gs.is u.high);
      }

  -- 2. The segments of a group.

  module _ (g : ℕ) where
    abbrev set : List (ℕ × ℕ)
    set = outermost how (2 ^ g) 0 spans

    is_set : IsSet set
    is_set = outermost_set how (2 ^ g) spans 0 a.order

    uses_then : (n : ℕ) → is_of how (2 ^ g) (span_at spans n) ≡ true → Uses spans how n g
    uses_then n t = eqb-true _ _ (sym (one_test (mask how (span_at spans n)) g) ∙ t)

    then_uses : (n : ℕ) → Uses spans how n g → is_of how (2 ^ g) (span_at spans n) ≡ true
    then_uses n u = one_test (mask how (span_at spans n)) g ∙ eq-eqb _ _ u

    its : (n : ℕ) → n < length set → HasSegment has g (can how) (segment_at set n)
    its n lt =
        let f = from_spans how (2 ^ g) spans 0 n lt in
        subst (HasSegment has g (can how)) (sym f.is) (a.each how g f.at f.small (uses_then f.at f.uses))

    -- each segment of what the group has lies in one of the set
    above : (q : Pointer) → has g q → can how q.perm ≡ true → 3 ≤ q.log → SomeHolds set (segment_of q)
    above q h c long =
        let s = a.held how g q h c long in
        let t = outermost_holds how (2 ^ g) spans a.order s.at s.small (then_uses s.at s.uses) in
        record { at = t.at; small = t.small; within = (let p = s.within.0 in let r = t.within.0 in omega arith, let p = s.within.1 in let r = t.within.1 in omega arith) }

    -- two segments of the set that share an address are one
    same_index : (m n b : ℕ) → At set m b → At set n b → m ≡ n
    same_index m n b s t = elim (cases_lt m n) [
      | inl lt ↦ absurd (let up = is_set.rise m n lt t.0 in let p = s.2 in let r = t.1 in omega arith)
      | inr le ↦ elim (cases_lt n m) [
        | inl lt ↦ absurd (let up = is_set.rise n m lt s.0 in let p = t.2 in let r = s.1 in omega arith)
        | inr ge ↦ omega arith
      ]
    ]

    maximal : (n : ℕ) → n < length set → (p : Pointer) → has g p → can how p.perm ≡ true → InSegment p (segment_at set n).0 → p.log ≤ (segment_at set n).1
    maximal n lt p h c inside = elim (cases_lt p.log 3) [
      | inl short ↦ let low = (is_set.segments n lt).low in omega arith
      | inr long ↦
          let t = above p h c long in
          let b = between p (segment_at set n).0 inside in
          let w = t.within in
          let here : At set t.at (segment_at set n).0 = (t.small, let u = b.0 in let v = w.0 in omega arith, let u = b.1 in let v = w.1 in omega arith) in
          let there : At set n (segment_at set n).0 = (lt, omega arith, some_in (segment_at set n)) in
          let same = same_index t.at n (segment_at set n).0 here there in
          shorter (segment_of p) (segment_at set n) (subst (λ v. LiesIn (segment_of p) (segment_at set v)) same w)
    ]

    to_maximal : (s : ℕ × ℕ) → Contains set s → IsMaximal has g (can how) s
    to_maximal s m =
        let is : segment_at set m.0 ≡ s = get_or_default set m.0 (0, 0) s m.1 ∙ m.2 in
        subst (IsMaximal has g (can how)) is (record { held = its m.0 m.1; maximal = maximal m.0 m.1 })

    same_pair : (s t : ℕ × ℕ) → s.0 ≡ t.0 → s.1 ≡ t.1 → s ≡ t
    same_pair s t p q = λ j. (p j, q j)

    from_maximal : (s : ℕ × ℕ) → IsMaximal has g (can how) s → Contains set s
    from_maximal s m =
        let gs = m.held in
        let t = above gs.by gs.held gs.has_right gs.whole_word in
        let top = its t.at t.small in
        let w : LiesIn (segment_of gs.by) (segment_at set t.at) = t.within in
        let room = pow_pos gs.by.log in
        let base : s.0 ≡ base_of gs.by = ap (λ (v : ℕ × ℕ). v.0) gs.is in
        let log : s.1 ≡ gs.by.log = ap (λ (v : ℕ × ℕ). v.1) gs.is in
        let in_top : InSegment top.by s.0 = in_by top.by s.0 (subst (λ v. v.0 ≤ s.0) top.is (let u = w.0 in omega arith)) (subst (λ v. s.0 < end_of v) top.is (let u = w.1 in omega arith)) in
        let no_longer = m.maximal top.by top.held top.has_right in_top in
        let no_shorter = shorter (segment_of gs.by) (segment_at set t.at) w in
        let top_log : (segment_at set t.at).1 ≡ top.by.log = ap (λ (v : ℕ × ℕ). v.1) top.is in
        let same_log : (segment_at set t.at).1 ≡ s.1 = omega arith in
        let power : 2 ^ (segment_at set t.at).1 ≡ 2 ^ gs.by.log = ap (λ v. 2 ^ v) (same_log ∙ log) in
        let same_base : (segment_at set t.at).0 ≡ s.0 = (let u = w.0 in let v = w.1 in omega arith) in
        subst (Contains set) (same_pair (segment_at set t.at) s same_base same_log) (Contains-get_or set t.at (0, 0) t.small)

    pub are_maximal : AreMaximal has g (can how) set
    are_maximal = record {
      ascending = rises set (λ k lt. let up = is_set.rise k (k + 1) (omega arith) lt in let room = some_in (segment_at set k) in omega arith);
      each = λ s. (to_maximal s, from_maximal s);
    }

  -- 3. The words of some groups.

  -- a segment of the groups covers the word exactly where one of them uses a span that has it
  pub covered_use : (groups w : ℕ) → Covered (outermost how groups 0 spans) w → (n : ℕ) × (n < length spans)
      × (is_of how groups (span_at spans n) ≡ true) × (base_at spans n ≤ w) × (w < end_at spans n)
  covered_use groups w c =
      let f = from_spans how groups spans 0 c.by c.at.0 in
      (f.at, f.small, f.uses, subst (λ (v : ℕ × ℕ). v.0 ≤ w) f.is c.at.1, subst (λ (v : ℕ × ℕ). w < end_of v) f.is c.at.2)

  pub use_covered : (groups w n : ℕ) → n < length spans → is_of how groups (span_at spans n) ≡ true → base_at spans n ≤ w → w < end_at spans n → Covered (outermost how groups 0 spans) w
  use_covered groups w n lt uses low high =
      let t = outermost_holds how groups spans a.order n lt uses in
      record { by = t.at; at = (t.small, let p = t.within.0 in omega arith, let p = t.within.1 in omega arith) }

  pub group_covers : (g w : ℕ) → w % 8 ≡ 0 → Covered (outermost how (2 ^ g) 0 spans) w ↔ CanUse has how g w
  group_covers g w aligned = (
    λ c. let u = covered_use (2 ^ g) w c in span_use g w aligned (record { at = u.0; small = u.1; uses = uses_then g u.0 u.2; low = u.3; high = u.4 }),
    λ u. let s = use_span g w u in use_covered (2 ^ g) w s.at s.small (then_uses g s.at s.uses) s.low s.high,
  )
