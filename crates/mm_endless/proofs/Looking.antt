-- A child of a node was looked at.
use Rattle.std.proofs.Common.{◌≡◌, ◌≢◌, ◌⊎◌, inl, inr, ℕ, ◌+◌, ◌<◌, ◌≤◌, List, ◌∷◌, length, drop, sym, ap, ◌∙◌, subst, arith}
use Rattle.std.proofs.lemmas.{Bool.cases_eq, List.{get_or-set_same, get_or-set_other, length-set, drop_more}}
use Rattle.std.specs.Prelude.{Contains, slice_set, slice_index_or}
use Rattle.mm_span.proofs.Members.{in_cases}
use Rattle.mm_endless.specs.{Graphs.children, Stages.{Stage, number_of, left_of, IsOnPath, IsDone, IsInLast, IsLookedAt, IsStage}}
use Rattle.mm_endless.proofs.Marks.{path_inside, path_not_unmet}

module _ (g : List (List ℕ)) (s : Stage) (k : IsStage g s) (u n c : ℕ) (path : IsOnPath s u) (is : left_of s u ≡ n + 1)
    (child : slice_index_or (children g u) n 0 ≡ c) (looked : IsDone s c ⊎ (IsOnPath s c × IsInLast s c)) where
  abbrev t : Stage
  t = record s { left = slice_set s.left u n }

  in_left : u < length s.left
  in_left = let a = path_inside s u path in let b = k.marks in let d = k.lefts in omega (arith, a, b, d)

  left_u : left_of t u ≡ n
  left_u = get_or-set_same s.left u n 0 in_left

  left_other : (v : ℕ) → v ≢ u → left_of t v ≡ left_of s v
  left_other v ne = get_or-set_other s.left u v n 0 ne

  has : n < length (children g u)
  has = let f = k.few u path in omega (arith, f, is)

  children_from : drop n (children g u) ≡ c ∷ drop (left_of s u) (children g u)
  children_from =
      drop_more (children g u) n 0 has ∙ ap (λ x. x ∷ drop (n + 1) (children g u)) child ∙ ap (λ m. c ∷ drop m (children g u)) (sym is)

  looked_at : (v d : ℕ) → IsOnPath s v → Contains (drop (left_of t v) (children g v)) d → IsLookedAt t v d
  looked_at v d h there = elim (cases_eq v u) [
    | inl e ↦
        let at_u : Contains (drop (left_of t u) (children g u)) d = subst (λ x. Contains (drop (left_of t x) (children g x)) d) e there in
        let in_rest : Contains (c ∷ drop (left_of s u) (children g u)) d = subst (λ l. Contains l d) (ap (λ m. drop m (children g u)) left_u ∙ children_from) at_u in
        elim (in_cases c (drop (left_of s u) (children g u)) d in_rest) [
          | inl same ↦ elim looked [
            | inl done ↦ inl (subst (IsDone s) same done)
            | inr p ↦ inr (subst (IsOnPath s) same p.0, λ b inside le. subst (λ x. b ≤ number_of s x) same (p.1 b inside))
          ]
          | inr later ↦ subst (λ x. IsLookedAt t x d) (sym e) (k.looked u d path later)
        ]
    | inr ne ↦ k.looked v d h (subst (λ m. Contains (drop m (children g v)) d) (left_other v ne) there)
  ]

  pub look_keeps : IsStage g (record s { left = slice_set s.left u n })
  look_keeps = record {
    nodes = k.nodes;
    marks = k.marks;
    numbers = k.numbers;
    lefts = length-set s.left u n ∙ k.lefts;
    met = k.met;
    below = k.below;
    whole = λ v lt m. left_other v (λ e. path_not_unmet s u v path m (sym e)) ∙ k.whole v lt m;
    few = λ v h. elim (cases_eq v u) [
      | inl e ↦ subst (λ x. left_of t x ≤ length (children g x)) (sym e) (let a = left_u in let b = has in omega (arith, a, b))
      | inr ne ↦ let a = left_other v ne in let b = k.few v h in omega (arith, a, b)
    ];
    opens = k.opens;
    rising = k.rising;
    finishes = λ v there. ((k.finishes v there).0, left_other v (λ e. let z = (k.finishes v there).1 in let y = ap (left_of s) e in omega (arith, z, y, is)) ∙ (k.finishes v there).1);
    sets = k.sets;
    known = k.known;
    bounds = k.bounds;
    begun = k.begun;
    within = k.within;
    joined = k.joined;
    looked = looked_at;
    done = k.done;
    right = k.right;
  }
