-- Rounds in which all that groups have comes to others.
use Rattle.std.proofs.Common.{◌≡◌, ℕ, ◌+◌, ◌-◌, ◌<◌, ◌≤◌, ◌⊎◌, ◌↔◌, inl, inr, Bool, false, IsTrue, nat_lt, List, []}
use Rattle.std.proofs.Common.{◌∷◌, ◌++◌, length, slice_index, replicate, refl, sym, ap, ◌∙◌, subst, arith}
use Rattle.std.proofs.lemmas.Bool.{cases_lt, Decides.nat_tests}
use Rattle.std.proofs.lemmas.List.{get_or-replicate, get_or_past, get_or_push, get_or_append_left, length_push}
use Rattle.std.specs.Int.{bit_at}
use Rattle.mm_flow.specs.{Flow.{Has}, Sharing.{AddsEdges, SharedBy, PropagatesShared}}
use Rattle.mm_flow.proofs.{Walks.at_one, Bits.zero_bit}
use Rattle.mm_graph.proofs.OneBits.{with_bit, with_bit-only, with_bit-keeps, with_bit-there, with_bit-length}
use Rattle.mm_why.specs.Rounds.{IsHanding, HandsOn, IsStep, round_at, FirstRounds, AreRounds, HandingSoFar, OwnSoFar}
use Rattle.mm_why.{specs.Rounds.Hands.met, proofs.Pruning.same_or_before}

not_below : (g : ℕ) → 64 ≤ g → IsTrue (nat_lt g 64) → ⊥
not_below g le h = grind (arith, nat_tests)

pub no_group : (g : ℕ) (P : Type 0) → 64 ≤ g → (P → ⊥) → IsTrue (nat_lt g 64) ↔ P
no_group g P le none = (λ t. absurd (not_below g le t), λ p. absurd (none p))

pub own_more : (g : ℕ) (masks : List ℕ) → g < 64 → OwnSoFar g masks → OwnSoFar (g + 1) (with_bit masks g g)
own_more g masks lt o = record {
  len = with_bit-length masks g g inside lt ∙ o.len;
  own = λ h small. here h (same_or_before h g small);
  only = λ h k x. elim (with_bit-only masks g g inside lt h k x) [ inl y ↦ o.only h k y | inr e ↦ e.0 ∙ sym e.1 ];
}
  where
    inside : g < length masks
    inside = let l = o.len in omega (arith, l, lt)

    here : (h : ℕ) → (h ≡ g) ⊎ (h < g) → Has (with_bit masks g g) h h
    here h (inl e) = subst (λ v. Has (with_bit masks g g) v v) (sym e) (with_bit-there masks g g inside lt)
    here h (inr small) = with_bit-keeps masks g g inside lt h h (o.own h small)

pub own_start : OwnSoFar 0 (replicate 64 0)
own_start = record { len = refl; own = λ h small. absurd (omega arith); only = λ h g x. absurd (none h g x) }
  where
    zeros : (h : ℕ) → slice_index (replicate 64 0) h ≡ 0
    zeros h = elim (cases_lt h 64) [ inl lt ↦ get_or-replicate 64 h 0 0 lt | inr le ↦ get_or_past (replicate 64 0) h 0 le ]

    none : (h g : ℕ) → Has (replicate 64 0) h g → ⊥
    none h g x = zero_bit g (ap (λ v. bit_at v g) (sym (zeros h)) ∙ x)

module _ (links meets now : List ℕ) where
  pub handing_more : (h : ℕ) (old new : List ℕ) (takers : ℕ) → h < 64 → HandingSoFar links meets now h old
      → ((g : ℕ) → (bit_at takers g ≡ 1) ↔ SharedBy 64 (slice_index meets h) now g) → AddsEdges 64 old (slice_index now h) takers new
      → HandingSoFar links meets now (h + 1) new
  handing_more h old new takers lt so t adds = record {
    len = adds.len ∙ so.len;
    only = λ k g x. elim (adds.only k g x) [
      | inl y ↦ so.only k g y
      | inr y ↦ let s = (t g).0 y.1 in met h s.by lt s.small s.has y.0 s.shared_now
    ];
    keeps = λ k g x. adds.keeps k g (so.keeps k g x);
    each = λ a b k g la lb lk m x y. one a b k g (same_or_before a h la) lb lk m x y;
  }
    where
      one : (a b k g : ℕ) → (a ≡ h) ⊎ (a < h) → b < 64 → k < 64 → Has meets a b → Has now a k → Has now b g → Has new k g
      one a b k g (inl e) lb lk m x y =
          adds.each k g lk (subst (λ v. Has now v k) e x) ((t g).1 (record { by = b; small = lb; has = subst (λ v. Has meets v b) e m; shared_now = y }))
      one a b k g (inr la) lb lk m x y = adds.keeps k g (so.each a b k g la lb lk m x y)

  -- one round
  module _ (edges after : List ℕ) (changed : Bool) (handing : IsHanding links meets now edges) (d : PropagatesShared edges now after changed) where
    step : IsStep links meets now after
    step h g x = elim (d.only h g x) [
      | inl y ↦ inl y
      | inr s ↦ inr (record { by = s.by; small = s.small; has = s.has; hands = handing.only s.by g s.shared_now })
    ]

    pub step_more : (rounds : List (List ℕ)) → FirstRounds links meets (rounds ++ now ∷ []) → FirstRounds links meets ((rounds ++ now ∷ []) ++ after ∷ [])
    step_more rounds f = record {
      some = let l = length_push all after in omega (arith, l);
      len = λ p lt. len p (top p lt);
      own = λ p h lt lh. own p h (top p lt) lh;
      first = λ h g x. f.first h g (subst (λ v. Has v h g) (front 0 f.some) x);
      step = λ p lt. one p (same_or_before (p + 1) (length all) (let l = length_push all after in omega (arith, l, lt)));
    }
      where
        all : List (List ℕ)
        all = rounds ++ now ∷ []

        front : (p : ℕ) → p < length all → round_at (all ++ after ∷ []) p ≡ round_at all p
        front p lt = get_or_append_left all (after ∷ []) [] p lt

        last : round_at (all ++ after ∷ []) (length all) ≡ after
        last = get_or_push all after [] (length all) refl

        newest : (p : ℕ) → p + 1 ≡ length all → round_at all p ≡ now
        newest p e = get_or_push rounds now [] p (let l = length_push rounds now in omega (arith, l, e))

        top : (p : ℕ) → p < length (all ++ after ∷ []) → (p ≡ length all) ⊎ (p < length all)
        top p lt = same_or_before p (length all) (let l = length_push all after in omega (arith, l, lt))

        before : ℕ
        before = length rounds

        is_before : before + 1 ≡ length all
        is_before = sym (length_push rounds now)

        len : (p : ℕ) → (p ≡ length all) ⊎ (p < length all) → length (round_at (all ++ after ∷ []) p) ≡ 64
        len p (inl e) = ap (λ v. length (round_at (all ++ after ∷ []) v)) e ∙ ap length last ∙ d.len
            ∙ ap length (sym (newest before is_before)) ∙ f.len before (let e2 = is_before in omega (arith, e2))
        len p (inr lt) = ap length (front p lt) ∙ f.len p lt

        own : (p h : ℕ) → (p ≡ length all) ⊎ (p < length all) → h < 64 → Has (round_at (all ++ after ∷ []) p) h h
        own p h (inl e) lh =
            subst (λ v. Has v h h) (sym (ap (round_at (all ++ after ∷ [])) e ∙ last))
            (at_one (slice_index now h) (slice_index after h) h (d.grows h) (subst (λ v. Has v h h) (newest before is_before) (f.own before h (let e2 = is_before in omega (arith, e2)) lh)))
        own p h (inr lt) lh = subst (λ v. Has v h h) (sym (front p lt)) (f.own p h lt lh)

        one : (p : ℕ) → (p + 1 ≡ length all) ⊎ (p + 1 < length all) → IsStep links meets (round_at (all ++ after ∷ []) p) (round_at (all ++ after ∷ []) (p + 1))
        one p (inl e) =
            let a = front p (omega (arith, e)) ∙ newest p e in
            let b = ap (round_at (all ++ after ∷ [])) e ∙ last in
            subst (λ v. IsStep links meets v (round_at (all ++ after ∷ []) (p + 1))) (sym a) (subst (IsStep links meets now) (sym b) step)
        one p (inr lt) =
            subst (λ v. IsStep links meets v (round_at (all ++ after ∷ []) (p + 1))) (sym (front p (omega (arith, lt))))
            (subst (IsStep links meets (round_at all p)) (sym (front (p + 1) lt)) (f.step p lt))

    pub rounds_end : (rounds : List (List ℕ)) → changed ≡ false → FirstRounds links meets (rounds ++ now ∷ []) → AreRounds links meets (rounds ++ now ∷ [])
    rounds_end rounds same f = record {
      steps = f;
      end = λ h g lh lg x. subst (λ v. Has v h g) (sym newest) (closed h g lh lg (subst (λ v. HandsOn links meets v h g) newest x));
    }
      where
        newest : round_at (rounds ++ now ∷ []) (length (rounds ++ now ∷ []) - 1) ≡ now
        newest = get_or_push rounds now [] (length (rounds ++ now ∷ []) - 1) (let l = length_push rounds now in omega (arith, l))

        now_len : length now ≡ 64
        now_len = ap length (sym newest) ∙ f.len (length (rounds ++ now ∷ []) - 1) (let l = length_push rounds now in omega (arith, l))

        closed : (h g : ℕ) → h < 64 → g < 64 → HandsOn links meets now h g → Has now h g
        closed h g lh lg x =
            let e = d.same same in
            subst (λ v. Has v h g) e (d.still same h g (let l = now_len in let m = d.len in omega (arith, l, m, lh))
            (record { by = x.by; small = x.small; has = subst (λ v. Has v h x.by) (sym e) x.has; shared_now = handing.each x.by g x.small lg x.hands }))
