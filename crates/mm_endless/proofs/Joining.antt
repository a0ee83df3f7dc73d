-- The last sets of the path become one.
use Rattle.std.proofs.Common.{◌≡◌, ◌⊎◌, inl, inr, ℕ, ◌<◌, ◌≤◌, List, [], ◌∷◌, ◌++◌, length, sym, ap, ◌∙◌, subst, arith}
use Rattle.std.proofs.lemmas.{Bool.cases_lt, List.Elements.{Contains-push, Contains-push_cases, Contains-append_left}}
use Rattle.std.{specs.Prelude.Contains}
use Rattle.mm_span.{specs.Pairs.EachPair, proofs.Members.{in_cases, none_in, all_at, all_of}}
use Rattle.mm_endless.specs.Graphs.{children, Leads}
use Rattle.mm_endless.specs.Stages.{Stage, mark_of, number_of, IsOnPath, IsNotBefore, IsInLast, IsInSome, IsStage, IsLastOpen}
use Rattle.mm_endless.proofs.{Walking.{leads_trans, leads_edge}, Discovering.pairs_weaken, Marks.path_inside}

-- the pairs of a list and its last element
pub pairs_last : {X : Type 0} (R : X → X → Type 0) (front : List X) (y : X) → EachPair R (front ++ y ∷ []) → (x : X) → Contains front x → R x y
pairs_last R [] y h x inside = absurd (none_in x inside)
pairs_last R (z ∷ front) y h x inside = elim (in_cases z front x inside) [
  | inl e ↦ subst (λ w. R w y) e (all_at (R z) (front ++ y ∷ []) y h.0 (Contains-push front y))
  | inr later ↦ pairs_last R front y h.1 x later
]

pub pairs_front : {X : Type 0} (R : X → X → Type 0) (front back : List X) → EachPair R (front ++ back) → EachPair R front
pairs_front R [] back h = tt
pairs_front R (z ∷ front) back h = (
  all_of (R z) front (λ x inside. all_at (R z) (front ++ back) x h.0 (Contains-append_left front back x inside)),
  pairs_front R front back h.1,
)

module _ (g : List (List ℕ)) (s : Stage) (k : IsStage g s) where
  -- the last open node is in the last set
  pub last_open : (v : ℕ) → IsLastOpen s v → IsInLast s v
  last_open v last b inside =
      let m = k.begun b inside in
      let e = m.2 in
      elim (Contains-push_cases last.front v m.0 (subst (λ l. Contains l m.0) last.is m.1)) [
        | inl before ↦
            let lt = pairs_last (λ x y. number_of s x < number_of s y) last.front v (subst (EachPair (λ x y. number_of s x < number_of s y)) last.is k.rising) m.0 before in
            omega (arith, lt, e)
        | inr same ↦ let P : ℕ → Type 0 = λ x. b ≤ number_of s x in subst P (sym same) (omega (arith, e))
      ]

  pub last_on_path : (v : ℕ) → IsLastOpen s v → IsOnPath s v
  last_on_path v last = k.opens v (subst (λ l. Contains l v) (sym last.is) (Contains-push last.front v))

  -- a set that begins after a node to which the last open node leads is one with the set before it
  module _ (u c : ℕ) (path_u : IsOnPath s u) (last : IsInLast s u) (led : Leads g u c) (path_c : IsOnPath s c)
      (front : List ℕ) (b : ℕ) (is : s.bounds ≡ front ++ b ∷ []) (below : number_of s c < b) where
    abbrev t : Stage
    t = record s { bounds = front }

    kept : (x : ℕ) → Contains front x → Contains s.bounds x
    kept x inside = subst (λ l. Contains l x) (sym is) (Contains-append_left front (b ∷ []) x inside)

    was : (x : ℕ) → Contains s.bounds x → Contains front x ⊎ (b ≡ x)
    was x inside = Contains-push_cases front b x (subst (λ l. Contains l x) is inside)

    less : (x : ℕ) → Contains front x → x < b
    less x inside = pairs_last ◌<◌ front b (subst (EachPair ◌<◌) is k.bounds) x inside

    joined_one : (p q : ℕ) → IsOnPath s p → IsOnPath s q → IsNotBefore t p q → Leads g p q
    joined_one p q hp hq n = elim (cases_lt (number_of s p) b) [
      | inl lt ↦ k.joined p q hp hq (λ x inside le. elim (was x inside) [
        | inl in_front ↦ n x in_front le
        | inr e ↦ absurd (omega (arith, e, le, lt))
      ])
      | inr ge ↦
          leads_trans g p u q (k.joined p u hp path_u (λ x inside le. last x inside))
          (leads_trans g u c q led (k.joined c q path_c hq (λ x inside le. elim (was x inside) [
            | inl in_front ↦ n x in_front (let lt = less x in_front in omega (arith, lt, ge))
            | inr e ↦ absurd (omega (arith, e, le, below))
          ])))
    ]

    some_left : (v : ℕ) → IsOnPath s v → IsInSome t v
    some_left v h =
        let w = k.within v h in
        elim (was w.0 w.1) [
          | inl in_front ↦ (w.0, in_front, w.2)
          | inr e ↦
              let d = k.within c path_c in
              elim (was d.0 d.1) [
                | inl in_front ↦ (d.0, in_front, let a = d.2 in let f = w.2 in omega (arith, a, f, e, below))
                | inr f ↦ let a = d.2 in absurd (omega (arith, a, f, below))
              ]
        ]

    pub join_keeps : IsStage g (record s { bounds = front })
    join_keeps = record {
      nodes = k.nodes;
      marks = k.marks;
      numbers = k.numbers;
      lefts = k.lefts;
      met = k.met;
      below = k.below;
      whole = k.whole;
      few = k.few;
      opens = k.opens;
      rising = k.rising;
      finishes = k.finishes;
      sets = pairs_weaken (IsNotBefore s) (IsNotBefore t) s.finished (λ x y left right n z inside le. n z (kept z inside) le) k.sets;
      known = k.known;
      bounds = pairs_front ◌<◌ front (b ∷ []) (subst (EachPair ◌<◌) is k.bounds);
      begun = λ x inside. k.begun x (kept x inside);
      within = some_left;
      joined = joined_one;
      looked = λ x y h there. elim (k.looked x y h there) [
        | inl d ↦ inl d
        | inr p ↦ inr (p.0, λ z inside le. p.1 z (kept z inside) le)
      ];
      done = k.done;
      right = k.right;
    }

-- all bounds are below a number, if the last is
pub bounds_below : (bounds front : List ℕ) (b n : ℕ) → EachPair ◌<◌ bounds → bounds ≡ front ++ b ∷ [] → b ≤ n → (x : ℕ) → Contains bounds x → x ≤ n
bounds_below bounds front b n rising is le x inside = elim (Contains-push_cases front b x (subst (λ l. Contains l x) is inside)) [
  | inl before ↦ let lt = pairs_last ◌<◌ front b (subst (EachPair ◌<◌) is rising) x before in omega (arith, lt, le)
  | inr e ↦ omega (arith, e, le)
]

pub no_bounds : (bounds : List ℕ) (n : ℕ) → bounds ≡ [] → (x : ℕ) → Contains bounds x → x ≤ n
no_bounds bounds n is x inside = absurd (none_in x (subst (λ l. Contains l x) is inside))

-- only bounds were taken away from a stage, and one more is
pub join_step : (g : List (List ℕ)) (old s : Stage) → IsStage g s → s ≡ record old { bounds = s.bounds } → (u c : ℕ) → IsLastOpen old u → Contains (children g u) c → IsOnPath old c
    → (front : List ℕ) (b : ℕ) → s.bounds ≡ front ++ b ∷ [] → number_of old c < b → IsStage g (record s { bounds = front })
join_step g old s k same u c last edge path front b is below =
    let here : IsLastOpen s u = record { front = last.front; is = ap (λ (x : Stage). x.unfinished) same ∙ last.is } in
    let number = ap (λ (x : Stage). number_of x c) same in
    join_keeps g s k u c (last_on_path g s k u here) (last_open g s k u here) (leads_edge g u c edge) (ap (λ (x : Stage). mark_of x c) same ∙ path) front b is (omega (arith, below, number))

-- the last open node is a node
pub open_inside : (g : List (List ℕ)) (s : Stage) → IsStage g s → (u : ℕ) → IsLastOpen s u → u < length g
open_inside g s k u last = let low = path_inside s u (last_on_path g s k u last) in let e = k.marks in omega (arith, low, e)
