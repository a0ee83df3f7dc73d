-- The longest runs of ascending words.
use Rattle.std.proofs.Common.{◌≡◌, ◌⊎◌, inl, inr, ℕ, ◌+◌, ◌*◌, ◌%◌, ◌<◌, ◌≤◌, ◌==◌, Bool, true, false, if◌then◌else◌}
use Rattle.std.proofs.Common.{List, [], ◌∷◌, Some, None, refl, sym, ap, ◌∙◌, subst, eqb-true, arith}
use Rattle.std.{proofs.lemmas.Bool.{eqb-false, Decides.nat_tests}, specs.{Prelude.Contains, List.AllByRecursion}}
use Rattle.mm_span.specs.{Pairs.EachPair, Spans.{Span, word_in, InSpan, IsApart, AreSpans, spans_after}}
use Rattle.mm_span.proofs.Members.{none_in, in_first, in_rest, in_cases, all_at, all_of}

abbrev one_word : ℕ → Span
one_word w = record { first = w; count = 1 }

abbrev longer : Span → Span
longer s = record { first = s.first; count = s.count + 1 }

abbrev Aligned : ℕ → Type 0
Aligned w = w % 8 ≡ 0

-- a run, and ascending words of which none is before its end
record GoesOn (s : Span) (ws : List ℕ) : Type 0 where
  some : 0 < s.count
  first : Aligned s.first
  words : AllByRecursion Aligned ws
  up : EachPair ◌<◌ ws
  after : AllByRecursion (λ w. word_in s s.count ≤ w) ws

-- the words of a run and others
abbrev Among : Span → List ℕ → ℕ → Type 0
Among s ws w = InSpan w s ⊎ Contains ws w

goes_on_longer : (s : Span) (w : ℕ) (ws : List ℕ) → GoesOn s (w ∷ ws) → word_in s s.count ≡ w → GoesOn (longer s) ws
goes_on_longer s w ws h e = record {
  some = omega arith;
  first = h.first;
  words = h.words.1;
  up = h.up.1;
  after = all_of (λ x. word_in (longer s) (s.count + 1) ≤ x) ws (λ x there.
      let later = all_at (λ y. w < y) ws x h.up.0 there in
      let mine = all_at Aligned ws x h.words.1 there in
      let own = h.words.0 in
      omega (arith, later, mine, own, e));
}

goes_on_new : (s : Span) (w : ℕ) (ws : List ℕ) → GoesOn s (w ∷ ws) → GoesOn (one_word w) ws
goes_on_new s w ws h = record {
  some = omega arith;
  first = h.words.0;
  words = h.words.1;
  up = h.up.1;
  after = all_of (λ x. word_in (one_word w) 1 ≤ x) ws (λ x there.
      let later = all_at (λ y. w < y) ws x h.up.0 there in
      let mine = all_at Aligned ws x h.words.1 there in
      let own = h.words.0 in
      omega (arith, later, mine, own));
}

-- what the runs after a run are
record IsRuns (s : Span) (ws : List ℕ) (spans : List Span) : Type 0 where
  are : AreSpans (Among s ws) spans
  from : AllByRecursion (λ (x : Span). s.first ≤ x.first) spans

begins : (s : Span) → 0 < s.count → (w : ℕ) → w ≡ s.first → InSpan w s
begins s some w e = record { index = 0; within = some; at = let same : s.first + 8 * 0 ≡ s.first = omega arith in same ∙ sym e }

-- the last run
ends : (s : Span) → GoesOn s [] → IsRuns s [] (s ∷ [])
ends s h = record {
  are = record {
    some = (h.some, tt);
    apart = (tt, tt);
    only = (λ k lt. inl (record { index = k; within = lt; at = refl }), tt);
    each = λ w among. elim among [
      | inl inside ↦ (s, in_first s [], inside)
      | inr there ↦ absurd (none_in w there)
    ];
  };
  from = (omega arith, tt);
}

pub spans_alike : (P Q : ℕ → Type 0) → ((w : ℕ) → P w → Q w) → ((w : ℕ) → Q w → P w) → (spans : List Span) → AreSpans P spans → AreSpans Q spans
spans_alike P Q to back spans h = record {
  some = h.some;
  apart = h.apart;
  only = all_of (λ (s : Span). (k : ℕ) → k < s.count → Q (word_in s k)) spans (λ s there k lt.
      to (word_in s k) (all_at (λ (s : Span). (k : ℕ) → k < s.count → P (word_in s k)) spans s h.only there k lt));
  each = λ w q. h.each w (back w q);
}

pub in_longer : (s : Span) (w x : ℕ) → word_in s s.count ≡ w → InSpan x (longer s) → InSpan x s ⊎ (w ≡ x)
in_longer s w x e inside = by (inside.index == s.count) refl
  where
    by : (b : Bool) → (inside.index == s.count) ≡ b → InSpan x s ⊎ (w ≡ x)
    by true is = inr (sym e ∙ ap (λ k. word_in s k) (sym (eqb-true inside.index s.count is)) ∙ inside.at)
    by false is =
        let other : inside.index < s.count = let k = inside.index in let lt = inside.within in not_last k s.count lt is in
        inl (record { index = inside.index; within = other; at = inside.at })
      where
        not_last : (k n : ℕ) → k < n + 1 → (k == n) ≡ false → k < n
        not_last k n lt differ = grind (arith, nat_tests)

module _ (s : Span) (w : ℕ) (ws : List ℕ) where
  longer_to : word_in s s.count ≡ w → (x : ℕ) → Among (longer s) ws x → Among s (w ∷ ws) x
  longer_to e x among = elim among [
    | inl inside ↦ elim (in_longer s w x e inside) [
      | inl own ↦ inl own
      | inr same ↦ inr (subst (Contains (w ∷ ws)) same (in_first w ws))
    ]
    | inr there ↦ inr (in_rest w ws x there)
  ]

  longer_back : word_in s s.count ≡ w → (x : ℕ) → Among s (w ∷ ws) x → Among (longer s) ws x
  longer_back e x among = elim among [
    | inl inside ↦ inl (record { index = inside.index; within = let lt = inside.within in omega (arith, lt); at = inside.at })
    | inr there ↦ elim (in_cases w ws x there) [
      | inl same ↦ inl (record { index = s.count; within = omega arith; at = e ∙ same })
      | inr later ↦ inr later
    ]
  ]

  only_first : (x : ℕ) → InSpan x (one_word w) → w ≡ x
  only_first x inside =
      let lt : inside.index < 1 = inside.within in
      let zero_is : inside.index ≡ 0 = omega (arith, lt) in
      let at : w + 8 * inside.index ≡ x = inside.at in
      omega (arith, zero_is, at)

  new_to : (x : ℕ) → Among (one_word w) ws x → Contains (w ∷ ws) x
  new_to x among = elim among [
    | inl inside ↦ subst (Contains (w ∷ ws)) (only_first x inside) (in_first w ws)
    | inr there ↦ in_rest w ws x there
  ]

  new_back : (x : ℕ) → Contains (w ∷ ws) x → Among (one_word w) ws x
  new_back x there = elim (in_cases w ws x there) [
    | inl same ↦ inl (begins (one_word w) (omega arith) x (sym same))
    | inr later ↦ inr later
  ]

  runs_longer : (spans : List Span) → word_in s s.count ≡ w → IsRuns (longer s) ws spans → IsRuns s (w ∷ ws) spans
  runs_longer spans e later = record {
    are = spans_alike (Among (longer s) ws) (Among s (w ∷ ws)) (longer_to e) (longer_back e) spans later.are;
    from = later.from;
  }

  runs_new : (spans : List Span) → GoesOn s (w ∷ ws) → (word_in s s.count ≡ w → ⊥) → IsRuns (one_word w) ws spans → IsRuns s (w ∷ ws) (s ∷ spans)
  runs_new spans h other later = record {
    are = record {
      some = (h.some, later.are.some);
      apart = (
        all_of (IsApart s) spans (λ t there.
            let up : w ≤ t.first = all_at (λ (x : Span). w ≤ x.first) spans t later.from there in
            let after = h.after.0 in
            omega (arith, up, after, other)),
        later.are.apart,
      );
      only = (
        λ k lt. inl (record { index = k; within = lt; at = refl }),
        all_of (λ (t : Span). (k : ℕ) → k < t.count → Among s (w ∷ ws) (word_in t k)) spans (λ t there k lt.
            inr (new_to (word_in t k) (all_at (λ (t : Span). (k : ℕ) → k < t.count → Among (one_word w) ws (word_in t k)) spans t later.are.only there k lt))),
      );
      each = λ x among. elim among [
        | inl inside ↦ (s, in_first s spans, inside)
        | inr there ↦ let found = later.are.each x (new_back x there) in (found.0, in_rest s spans found.0 found.1, found.2)
      ];
    };
    from = (
      omega arith,
      all_of (λ (t : Span). s.first ≤ t.first) spans (λ t there.
          let up : w ≤ t.first = all_at (λ (x : Span). w ≤ x.first) spans t later.from there in
          let after = h.after.0 in
          omega (arith, up, after)),
    );
  }

runs_are : (ws : List ℕ) (s : Span) → GoesOn s ws → IsRuns s ws (spans_after (Some s) ws)
runs_are [] s h = ends s h
runs_are (w ∷ ws) s h = by (runs_are ws) (word_in s s.count == w) refl
  where
    by : ((t : Span) → GoesOn t ws → IsRuns t ws (spans_after (Some t) ws)) → (b : Bool) → (word_in s s.count == w) ≡ b
        → IsRuns s (w ∷ ws) (if b then spans_after (Some (longer s)) ws else s ∷ spans_after (Some (one_word w)) ws)
    by rest true e =
        let same = eqb-true (word_in s s.count) w e in
        runs_longer s w ws (spans_after (Some (longer s)) ws) same (rest (longer s) (goes_on_longer s w ws h same))
    by rest false e = runs_new s w ws (spans_after (Some (one_word w)) ws) h (eqb-false (word_in s s.count) w e) (rest (one_word w) (goes_on_new s w ws h))

pub spans_are : (ws : List ℕ) → EachPair ◌<◌ ws → AllByRecursion Aligned ws → AreSpans (Contains ws) (spans_after None ws)
spans_are [] up words = record { some = tt; apart = tt; only = tt; each = λ w h. absurd (none_in w h) }
spans_are (w ∷ ws) up words =
    let first : GoesOn (one_word w) ws = record {
      some = omega arith;
      first = words.0;
      words = words.1;
      up = up.1;
      after = all_of (λ x. word_in (one_word w) 1 ≤ x) ws (λ x there.
          let later = all_at (λ y. w < y) ws x up.0 there in
          let mine = all_at Aligned ws x words.1 there in
          let own = words.0 in
          omega (arith, later, mine, own));
    } in
    spans_alike (Among (one_word w) ws) (Contains (w ∷ ws)) (new_to (one_word w) w ws) (new_back (one_word w) w ws) (spans_after (Some (one_word w)) ws) (runs_are ws (one_word w) first).are
