-- A node of which no child is left is finished.
use Rattle.std.proofs.Common.{◌≡◌, ◌≢◌, inl, inr, ℕ, ◌<◌, List, [], ◌∷◌, ◌++◌, sym, ap, ◌∙◌, subst, arith}
use Rattle.std.proofs.lemmas.List.Elements.{Contains-push, Contains-push_cases, Contains-append_left}
use Rattle.std.specs.Prelude.{Contains}
use Rattle.mm_span.specs.Pairs.{EachPair}
use Rattle.mm_endless.specs.Stages.{Stage, number_of, left_of, IsOnPath, IsNotBefore, IsOpenAt, IsStage, IsLastOpen}
use Rattle.mm_endless.proofs.{Lists.pushed, Discovering.pairs_push, Joining.{pairs_front, pairs_last, last_open, last_on_path}}

module _ (g : List (List ℕ)) (s : Stage) (k : IsStage g s) (u : ℕ) (last : IsLastOpen s u) where
  -- the node is among the finished ones, and still among the open ones
  pub finish_keeps : left_of s u ≡ 0 → IsStage g (record s { finished = s.finished ++ u ∷ [] })
  finish_keeps none = record {
    nodes = k.nodes;
    marks = k.marks;
    numbers = k.numbers;
    lefts = k.lefts;
    met = k.met;
    below = k.below;
    whole = k.whole;
    few = k.few;
    opens = k.opens;
    rising = k.rising;
    finishes = λ v there. elim (Contains-push_cases s.finished u v there) [
      | inl was ↦ k.finishes v was
      | inr e ↦ let P : ℕ → Type 0 = λ x. IsOnPath s x × (left_of s x ≡ 0) in subst P e (last_on_path g s k u last, none)
    ];
    sets = pairs_push (IsNotBefore s) s.finished u k.sets (λ v there b inside le. last_open g s k u last b inside);
    known = λ v h. elim (k.known v h) [ inl o ↦ inl o | inr f ↦ inr (Contains-append_left s.finished (u ∷ []) v f) ];
    bounds = k.bounds;
    begun = k.begun;
    within = k.within;
    joined = k.joined;
    looked = k.looked;
    done = k.done;
    right = k.right;
  }

  -- A finished node whose number is no bound is taken from the open ones.
  pub pop_keeps : Contains s.finished u → ((b : ℕ) → Contains s.bounds b → b ≢ number_of s u) → IsStage g (record s { unfinished = last.front })
  pop_keeps finished no_bound = record {
    nodes = k.nodes;
    marks = k.marks;
    numbers = k.numbers;
    lefts = k.lefts;
    met = k.met;
    below = k.below;
    whole = k.whole;
    few = k.few;
    opens = λ v there. k.opens v (front_in v there);
    rising = pairs_front (λ x y. number_of s x < number_of s y) last.front (u ∷ []) (subst (EachPair (λ x y. number_of s x < number_of s y)) last.is k.rising);
    finishes = k.finishes;
    sets = k.sets;
    known = λ v h. elim (k.known v h) [
      | inl o ↦ elim (Contains-push_cases last.front u v (subst (λ l. Contains l v) last.is o)) [
        | inl front ↦ inl front
        | inr e ↦ inr (subst (Contains s.finished) e finished)
      ]
      | inr f ↦ inr f
    ];
    bounds = k.bounds;
    begun = begun_in;
    within = k.within;
    joined = k.joined;
    looked = k.looked;
    done = k.done;
    right = k.right;
  }
    where
      front_in : (v : ℕ) → Contains last.front v → Contains s.unfinished v
      front_in v there = subst (λ l. Contains l v) (sym last.is) (Contains-append_left last.front (u ∷ []) v there)

      begun_in : (b : ℕ) → Contains s.bounds b → IsOpenAt (record s { unfinished = last.front }) b
      begun_in b inside =
          let m = k.begun b inside in
          elim (Contains-push_cases last.front u m.0 (subst (λ l. Contains l m.0) last.is m.1)) [
            | inl front ↦ (m.0, front, m.2)
            | inr e ↦ absurd (no_bound b inside (sym m.2 ∙ ap (number_of s) (sym e)))
          ]

-- no set begins with the last open node, if its number is not the last bound
pub no_bound : (g : List (List ℕ)) (s : Stage) → IsStage g s → (u : ℕ) → IsLastOpen s u → ((front : List ℕ) → s.bounds ≡ front ++ number_of s u ∷ [] → ⊥) → (b : ℕ) → Contains s.bounds b → b ≢ number_of s u
no_bound g s k u last none b inside e =
    let p = pushed s.bounds b inside in
    let le = last_open g s k u last p.last (subst (λ l. Contains l p.last) (sym p.is) (Contains-push p.front p.last)) in
    elim (Contains-push_cases p.front p.last b (subst (λ l. Contains l b) p.is inside)) [
      | inl before ↦ let lt = pairs_last ◌<◌ p.front p.last (subst (EachPair ◌<◌) p.is k.bounds) b before in absurd (omega (arith, lt, le, e))
      | inr same ↦ none p.front (p.is ∙ ap (λ n. p.front ++ n ∷ []) (same ∙ e))
    ]
