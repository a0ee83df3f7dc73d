-- The schedules of a list of which something holds.
use Rattle.std.proofs.Common.{◌≡◌, inl, inr, ℕ, List, [], ◌∷◌, ◌++◌, refl, sym, ap, ◌∙◌, subst}
use Rattle.std.specs.{Prelude.Contains}
use Rattle.mm_span.{specs.Pairs.EachPair, proofs.Members.{none_in, in_first, in_rest, in_cases, all_at, all_of}}
use Rattle.mm_explore.specs.{Outcomes.Selects, Schedules.Before}

module _ (P : List ℕ → Type 0) where
  pub selected : (list some : List (List ℕ)) → Selects P list some → (t : List ℕ) → Contains list t → P t → Contains some t
  selected [] some h t inside holds = absurd (none_in t inside)
  selected (x ∷ list) some (inl h) t inside holds =
      let rest = h.1 in
      subst (λ l. Contains l t) (sym rest.1) (elim (in_cases x list t inside) [
        | inl e ↦ subst (Contains (x ∷ rest.0)) e (in_first x rest.0)
        | inr later ↦ in_rest x rest.0 t (selected list rest.0 rest.2 t later holds)
      ])
  selected (x ∷ list) some (inr h) t inside holds = elim (in_cases x list t inside) [
    | inl e ↦ absurd (h.0 (subst P (sym e) holds))
    | inr later ↦ selected list some h.1 t later holds
  ]

  pub is_selected : (list some : List (List ℕ)) → Selects P list some → (t : List ℕ) → Contains some t → Contains list t × P t
  is_selected [] some h t inside = absurd (none_in t (subst (λ l. Contains l t) h inside))
  is_selected (x ∷ list) some (inl h) t inside =
      let rest = h.1 in
      elim (in_cases x rest.0 t (subst (λ l. Contains l t) rest.1 inside)) [
        | inl e ↦ (subst (Contains (x ∷ list)) e (in_first x list), subst P e h.0)
        | inr later ↦ let k = is_selected list rest.0 rest.2 t later in (in_rest x list t k.0, k.1)
      ]
  is_selected (x ∷ list) some (inr h) t inside = let k = is_selected list some h.1 t inside in (in_rest x list t k.0, k.1)

  pub selected_in_order : (list some : List (List ℕ)) → Selects P list some → EachPair Before list → EachPair Before some
  selected_in_order [] some h up = subst (EachPair Before) (sym h) tt
  selected_in_order (x ∷ list) some (inl h) up =
      let rest = h.1 in
      subst (EachPair Before) (sym rest.1) (
        all_of (Before x) rest.0 (λ t inside. all_at (Before x) list t up.0 (is_selected list rest.0 rest.2 t inside).0),
        selected_in_order list rest.0 rest.2 up.1,
      )
  selected_in_order (x ∷ list) some (inr h) up = selected_in_order list some h.1 up.1

  pub selects_one : (list a b : List (List ℕ)) → Selects P list a → Selects P list b → a ≡ b
  selects_one [] a b h k = h ∙ sym k
  selects_one (t ∷ list) a b (inl h) (inl k) =
      let x = h.1 in
      let y = k.1 in
      x.1 ∙ ap (λ l. t ∷ l) (selects_one list x.0 y.0 x.2 y.2) ∙ sym y.1
  selects_one (t ∷ list) a b (inl h) (inr k) = absurd (k.0 h.0)
  selects_one (t ∷ list) a b (inr h) (inl k) = absurd (h.0 k.0)
  selects_one (t ∷ list) a b (inr h) (inr k) = selects_one list a b h.1 k.1

  pub select_skip : (list some : List (List ℕ)) (t : List ℕ) → (P t → ⊥) → Selects P list some → Selects P (list ++ t ∷ []) some
  select_skip [] some t none h = inr (none, h)
  select_skip (s ∷ list) some t none (inl h) = inl (h.0, (h.1.0, h.1.1, select_skip list h.1.0 t none h.1.2))
  select_skip (s ∷ list) some t none (inr h) = inr (h.0, select_skip list some t none h.1)

  pub select_more : (list some : List (List ℕ)) (t : List ℕ) → P t → Selects P list some → Selects P (list ++ t ∷ []) (some ++ t ∷ [])
  select_more [] some t holds h = inl (holds, ([], ap (λ l. l ++ t ∷ []) h, refl))
  select_more (s ∷ list) some t holds (inl h) = inl (h.0, (h.1.0 ++ t ∷ [], ap (λ l. l ++ t ∷ []) h.1.1, select_more list h.1.0 t holds h.1.2))
  select_more (s ∷ list) some t holds (inr h) = inr (h.0, select_more list some t holds h.1)

-- what stands behind an element of a list of which each pair stands in a relation
pub pairs_behind : {X : Type 0} (R : X → X → Type 0) (front : List X) (x : X) (behind : List X) → EachPair R (front ++ x ∷ behind) → (y : X) → Contains behind y → R x y
pairs_behind R [] x behind h y inside = all_at (R x) behind y h.0 inside
pairs_behind R (z ∷ front) x behind h y inside = pairs_behind R front x behind h.1 y inside
