-- A node is met.
use Rattle.std.proofs.Common.{◌≡◌, ◌≢◌, ◌⊎◌, inl, inr, ℕ, ◌+◌, ◌<◌, ◌≤◌, true, List, [], ◌∷◌, ◌++◌, length, drop, sym}
use Rattle.std.proofs.Common.{ap, ◌∙◌, subst, arith}
use Rattle.std.proofs.lemmas.{Bool.cases_eq, List.{get_or-set_same, get_or-set_other, length-set, drop_all}}
use Rattle.std.proofs.lemmas.List.{Elements.{Contains-push, Contains-push_cases, Contains-append_left}, Sums.{sum_by-set, count_by-le-length}}
use Rattle.std.specs.{Prelude.{Contains, slice_set, cond}, List.{count_by}}
use Rattle.mm_span.{specs.Pairs.EachPair, proofs.Members.{pairs_both, in_cases, none_in, in_first, in_rest, all_of, all_at}}
use Rattle.mm_endless.specs.declared.walk.Mark.{Mark, TheVariants.{Unmet, OnPath}}
use Rattle.mm_endless.specs.{Graphs.{children, Leads, IsTold}, Stages.{Stage, mark_of, number_of, left_of, is_met, is_done}}
use Rattle.mm_endless.specs.Stages.{IsOnPath, IsDone, IsNotBefore, IsInLast, IsStage, IsLater}
use Rattle.mm_endless.specs.Stages.{told_of, told_by, discovered}
use Rattle.mm_endless.proofs.{Walking.leads_self, Marks.{path_not_unmet, done_not_unmet}}

-- pairs of a list with one element more
pub pairs_push : {X : Type 0} (R : X → X → Type 0) (xs : List X) (y : X) → EachPair R xs → ((x : X) → Contains xs x → R x y) → EachPair R (xs ++ y ∷ [])
pairs_push R xs y h over = pairs_both R xs (y ∷ []) h (tt, tt) (λ x z left right. elim (in_cases y [] z right) [
  | inl e ↦ subst (R x) e (over x left)
  | inr never ↦ absurd (none_in z never)
])

-- pairs that stand in a relation stand in another
pub pairs_weaken : {X : Type 0} (R S : X → X → Type 0) (xs : List X) → ((x y : X) → Contains xs x → Contains xs y → R x y → S x y) → EachPair R xs → EachPair S xs
pairs_weaken R S [] h k = tt
pairs_weaken R S (x ∷ xs) h k = (
  all_of (S x) xs (λ y inside. h x y (in_first x xs) (in_rest x xs y inside) (all_at (R x) xs y k.0 inside)),
  pairs_weaken R S xs (λ y z left right. h y z (in_rest x xs y left) (in_rest x xs z right)) k.1,
)

module _ (g : List (List ℕ)) (s : Stage) (k : IsStage g s) (v : ℕ) (inside : v < length g) (unmet : mark_of s v ≡ Unmet) where
  abbrev t : Stage
  t = discovered s v

  in_marks : v < length s.marks
  in_marks = let e = k.marks in omega (arith, e, inside)

  in_numbers : v < length s.numbers
  in_numbers = let e = k.numbers in omega (arith, e, inside)

  mark_v : mark_of t v ≡ OnPath
  mark_v = get_or-set_same s.marks v OnPath Unmet in_marks

  mark_other : (u : ℕ) → u ≢ v → mark_of t u ≡ mark_of s u
  mark_other u ne = get_or-set_other s.marks v u OnPath Unmet ne

  number_v : number_of t v ≡ s.met
  number_v = get_or-set_same s.numbers v s.met 0 in_numbers

  number_path : (u : ℕ) → IsOnPath s u → number_of t u ≡ number_of s u
  number_path u h = get_or-set_other s.numbers v u s.met 0 (path_not_unmet s u v h unmet)

  pub path_stays : (u : ℕ) → IsOnPath s u → IsOnPath t u
  path_stays u h = mark_other u (path_not_unmet s u v h unmet) ∙ h

  pub path_new : IsOnPath t v
  path_new = mark_v

  path_was : (u : ℕ) → IsOnPath t u → (u ≡ v) ⊎ IsOnPath s u
  path_was u h = elim (cases_eq u v) [
    | inl e ↦ inl e
    | inr ne ↦ inr (sym (mark_other u ne) ∙ h)
  ]

  done_stays : (u : ℕ) → IsDone s u → IsDone t u
  done_stays u d = ap is_done (mark_other u (done_not_unmet s u v d unmet)) ∙ d

  done_was : (u : ℕ) → IsDone t u → IsDone s u
  done_was u d = elim (cases_eq u v) [
    | inl e ↦ let x = ap is_done (sym (ap (mark_of t) e ∙ mark_v)) ∙ d in absurd (not_done x)
    | inr ne ↦ ap is_done (sym (mark_other u ne)) ∙ d
  ]
    where
      not_done : is_done OnPath ≡ true → ⊥
      not_done e = cc

  bound_below : (b : ℕ) → Contains s.bounds b → b < s.met
  bound_below b there =
      let m = k.begun b there in
      let low = k.below m.0 (k.opens m.0 m.1) in
      let e = m.2 in
      omega (arith, low, e)

  before_stays : (u w : ℕ) → IsOnPath s u → IsOnPath s w → IsNotBefore s u w → IsNotBefore t u w
  before_stays u w hu hw n b there le =
      let eu = number_path u hu in
      let ew = number_path w hw in
      elim (Contains-push_cases s.bounds s.met b there) [
        | inl was ↦ let x = n b was (omega (arith, le, eu)) in omega (arith, x, ew)
        | inr e ↦ let low = k.below u hu in absurd (omega (arith, low, e, le, eu))
      ]

  before_was : (u w : ℕ) → IsOnPath s u → IsOnPath s w → IsNotBefore t u w → IsNotBefore s u w
  before_was u w hu hw n b was le =
      let eu = number_path u hu in
      let ew = number_path w hw in
      let x = n b (Contains-append_left s.bounds (s.met ∷ []) b was) (omega (arith, le, eu)) in
      omega (arith, x, ew)

  before_new : (u : ℕ) → IsOnPath s u → IsNotBefore t u v
  before_new u hu b there le = let e = number_v in elim (Contains-push_cases s.bounds s.met b there) [
    | inl was ↦ let x = bound_below b was in omega (arith, x, e)
    | inr at ↦ omega (arith, at, e)
  ]

  -- the new node is in the last set
  pub last_new : IsInLast (discovered s v) v
  last_new b there = let e = number_v in elim (Contains-push_cases s.bounds s.met b there) [
    | inl was ↦ let x = bound_below b was in omega (arith, x, e)
    | inr at ↦ omega (arith, at, e)
  ]

  counted : s.met + 1 ≡ count_by is_met (slice_set s.marks v OnPath)
  counted =
      let e = sum_by-set (λ m. cond (is_met m) 1 0) s.marks v OnPath Unmet in_marks in
      let z : cond (is_met (mark_of s v)) 1 0 ≡ 0 = ap {B = ℕ} (λ m. cond (is_met m) 1 0) unmet in
      let n = k.met in
      omega (arith, e, z, n)

  -- not all nodes were met
  pub room : s.met < length s.marks
  room =
      let all = count_by-le-length is_met (slice_set s.marks v OnPath) in
      let same = length-set s.marks v OnPath in
      let n = counted in
      omega (arith, all, same, n)

  module _ (led : (u : ℕ) → IsOnPath s u → Leads g u v) where
    joined_new : (u w : ℕ) → IsOnPath t u → IsOnPath t w → IsNotBefore t u w → Leads g u w
    joined_new u w hu hw n = elim (path_was u hu) [
      | inl eu ↦ elim (path_was w hw) [
        | inl ew ↦ subst (λ x. Leads g u x) (eu ∙ sym ew) (leads_self g u)
        | inr was ↦
            let x = n s.met (Contains-push s.bounds s.met) (let e = ap (number_of t) eu ∙ number_v in omega (arith, e)) in
            let low = k.below w was in
            let e = number_path w was in
            absurd (omega (arith, x, low, e))
      ]
      | inr old ↦ elim (path_was w hw) [
        | inl ew ↦ subst (λ x. Leads g u x) (sym ew) (led u old)
        | inr was ↦ k.joined u w old was (before_was u w old was n)
      ]
    ]

    pub discover_keeps : IsStage g (discovered s v)
    discover_keeps = record {
      nodes = k.nodes;
      marks = length-set s.marks v OnPath ∙ k.marks;
      numbers = length-set s.numbers v s.met ∙ k.numbers;
      lefts = k.lefts;
      met = counted;
      below = λ u h. elim (path_was u h) [
        | inl e ↦ let x = ap (number_of t) e ∙ number_v in omega (arith, x)
        | inr was ↦ let low = k.below u was in let e = number_path u was in omega (arith, low, e)
      ];
      whole = λ u lt m. elim (cases_eq u v) [
        | inl e ↦ absurd (clash (sym (ap (mark_of t) e ∙ mark_v) ∙ m))
        | inr ne ↦ k.whole u lt (sym (mark_other u ne) ∙ m)
      ];
      few = λ u h. elim (path_was u h) [
        | inl e ↦ let x = k.whole v inside unmet in subst (λ w. left_of s w ≤ length (children g w)) (sym e) (omega (arith, x))
        | inr was ↦ k.few u was
      ];
      opens = λ u there. elim (Contains-push_cases s.unfinished v u there) [
        | inl was ↦ path_stays u (k.opens u was)
        | inr e ↦ subst (IsOnPath t) e path_new
      ];
      rising = pairs_push (λ u w. number_of t u < number_of t w) s.unfinished v
          (pairs_weaken (λ u w. number_of s u < number_of s w) (λ u w. number_of t u < number_of t w) s.unfinished (λ u w left right lt.
          let a = number_path u (k.opens u left) in let b = number_path w (k.opens w right) in omega (arith, a, b, lt)) k.rising)
          (λ u there. let low = k.below u (k.opens u there) in let a = number_path u (k.opens u there) in let b = number_v in omega (arith, low, a, b));
      finishes = λ u there. (path_stays u (k.finishes u there).0, (k.finishes u there).1);
      sets = pairs_weaken (IsNotBefore s) (IsNotBefore t) s.finished (λ u w left right n.
          before_stays u w (k.finishes u left).0 (k.finishes w right).0 n) k.sets;
      known = λ u h. elim (path_was u h) [
        | inl e ↦ inl (subst (Contains (s.unfinished ++ v ∷ [])) (sym e) (Contains-push s.unfinished v))
        | inr was ↦ elim (k.known u was) [
          | inl o ↦ inl (Contains-append_left s.unfinished (v ∷ []) u o)
          | inr f ↦ inr f
        ]
      ];
      bounds = pairs_push ◌<◌ s.bounds s.met k.bounds bound_below;
      begun = λ b there. elim (Contains-push_cases s.bounds s.met b there) [
        | inl was ↦
            let m = k.begun b was in
            (m.0, Contains-append_left s.unfinished (v ∷ []) m.0 m.1, number_path m.0 (k.opens m.0 m.1) ∙ m.2)
        | inr e ↦ (v, Contains-push s.unfinished v, number_v ∙ e)
      ];
      within = λ u h. elim (path_was u h) [
        | inl e ↦ (s.met, Contains-push s.bounds s.met, let x = ap (number_of t) e ∙ number_v in omega (arith, x))
        | inr was ↦
            let w = k.within u was in
            let e = number_path u was in
            let low = w.2 in
            (w.0, Contains-append_left s.bounds (s.met ∷ []) w.0 w.1, omega (arith, e, low))
      ];
      joined = joined_new;
      looked = λ u c h there. elim (path_was u h) [
        | inl e ↦ absurd (none_in c (subst (λ xs. Contains xs c) (empty u e) there))
        | inr was ↦ elim (k.looked u c was there) [
          | inl d ↦ inl (done_stays c d)
          | inr p ↦ inr (path_stays c p.0, before_stays u c was p.0 p.1)
        ]
      ];
      done = λ u c d there. done_stays c (k.done u c (done_was u d) there);
      right = λ u d. subst (IsTold g u) (told_same u (done_was u d)) (k.right u (done_was u d));
    }
      where
        clash : ◌≡◌ {A = Mark} OnPath Unmet → ⊥
        clash e = cc

        empty : (u : ℕ) → u ≡ v → drop (left_of s u) (children g u) ≡ []
        empty u e = drop_all (left_of s u) (children g u) (let x = k.whole v inside unmet in subst (λ w. length (children g w) ≤ left_of s w) (sym e) (omega (arith, x)))

        told_same : (u : ℕ) → IsDone s u → told_of s u ≡ told_of t u
        told_same u d =
            let ne = done_not_unmet s u v d unmet in
            ap (λ m. told_by m (number_of s u)) (sym (mark_other u ne)) ∙ ap (told_by (mark_of t u)) (sym (get_or-set_other s.numbers v u s.met 0 ne))

    pub discover_later : IsLater s (discovered s v)
    discover_later = record {
      met = λ u m. elim (cases_eq u v) [
        | inl e ↦ ap is_met (ap (mark_of t) e ∙ mark_v)
        | inr ne ↦ ap is_met (mark_other u ne) ∙ m
      ];
      done = done_stays;
    }
