-- What lists contain, element by element.
use Rattle.std.proofs.Common.{◌≡◌, ◌⊎◌, inl, inr, ℕ, zero, suc, ◌<◌, Bool, true, false, cond, List, [], ◌∷◌, map}
use Rattle.std.proofs.Common.{length, Option, Some, refl, sym, ap, ◌∙◌, subst, arith}
use Rattle.std.proofs.lemmas.Bool.{cases_Bool, both_ways}
use Rattle.std.proofs.lemmas.List.Elements.{Contains-append_left, Contains-append_right, Contains-append_cases}
use Rattle.std.specs.Prelude.{Contains, IsSome, is_some, slice_index_or}
use Rattle.std.specs.List.{AllByRecursion, filter, find, flat_map}

module _ {X : Type 0} where
  pub none_in : (x : X) → Contains [] x → ⊥
  none_in x h = let lt = h.1 in omega (arith, lt)

  pub in_first : (x : X) (xs : List X) → Contains (x ∷ xs) x
  in_first x xs = (0, omega arith, refl)

  pub in_rest : (y : X) (xs : List X) (x : X) → Contains xs x → Contains (y ∷ xs) x
  in_rest y xs x h = let lt = h.1 in (suc h.0, omega (arith, lt), h.2)

  pub in_cases : (y : X) (xs : List X) (x : X) → Contains (y ∷ xs) x → (y ≡ x) ⊎ Contains xs x
  in_cases y xs x h = by h.0 h.1 h.2
    where
      by : (k : ℕ) → k < length (y ∷ xs) → slice_index_or (y ∷ xs) k x ≡ x → (y ≡ x) ⊎ Contains xs x
      by zero lt e = inl e
      by (suc k) lt e = inr (k, omega (arith, lt), e)

  pub all_at : (P : X → Type 0) (xs : List X) (x : X) → AllByRecursion P xs → Contains xs x → P x
  all_at P [] x h k = absurd (none_in x k)
  all_at P (y ∷ xs) x h k = elim (in_cases y xs x k) [
    | inl e ↦ subst P e h.0
    | inr later ↦ all_at P xs x h.1 later
  ]

  pub all_of : (P : X → Type 0) (xs : List X) → ((x : X) → Contains xs x → P x) → AllByRecursion P xs
  all_of P [] h = tt
  all_of P (x ∷ xs) h = (h x (in_first x xs), all_of P xs (λ y k. h y (in_rest x xs y k)))

module _ {X Y : Type 0} (f : X → Y) where
  pub in_map : (xs : List X) (x : X) → Contains xs x → Contains (map f xs) (f x)
  in_map [] x h = absurd (none_in x h)
  in_map (y ∷ xs) x h = elim (in_cases y xs x h) [
    | inl e ↦ subst (Contains (map f (y ∷ xs))) (ap f e) (in_first (f y) (map f xs))
    | inr later ↦ in_rest (f y) (map f xs) (f x) (in_map xs x later)
  ]

  pub record From (xs : List X) (y : Y) : Type 0 where
    pub source : X
    pub inside : Contains xs source
    pub gives : f source ≡ y

  pub map_in : (xs : List X) (y : Y) → Contains (map f xs) y → From xs y
  map_in [] y h = absurd (none_in y h)
  map_in (x ∷ xs) y h = elim (in_cases (f x) (map f xs) y h) [
    | inl e ↦ record { source = x; inside = in_first x xs; gives = e }
    | inr later ↦ let k = map_in xs y later in record { source = k.source; inside = in_rest x xs k.source k.inside; gives = k.gives }
  ]

module _ {X Y : Type 0} (f : X → List Y) where
  pub in_flat : (xs : List X) (x : X) (y : Y) → Contains xs x → Contains (f x) y → Contains (flat_map f xs) y
  in_flat [] x y h k = absurd (none_in x h)
  in_flat (z ∷ xs) x y h k = elim (in_cases z xs x h) [
    | inl e ↦ Contains-append_left (f z) (flat_map f xs) y (subst (λ w. Contains (f w) y) (sym e) k)
    | inr later ↦ Contains-append_right (f z) (flat_map f xs) y (in_flat xs x y later k)
  ]

  pub record Within (xs : List X) (y : Y) : Type 0 where
    pub source : X
    pub inside : Contains xs source
    pub has : Contains (f source) y

  pub flat_in : (xs : List X) (y : Y) → Contains (flat_map f xs) y → Within xs y
  flat_in [] y h = absurd (none_in y h)
  flat_in (x ∷ xs) y h = elim (Contains-append_cases (f x) (flat_map f xs) y h) [
    | inl here ↦ record { source = x; inside = in_first x xs; has = here }
    | inr later ↦ let k = flat_in xs y later in record { source = k.source; inside = in_rest x xs k.source k.inside; has = k.has }
  ]

module _ {X : Type 0} (p : X → Bool) where
  pub filter_takes : (x : X) (xs : List X) → p x ≡ true → filter p (x ∷ xs) ≡ x ∷ filter p xs
  filter_takes x xs e = ap (λ b. cond b (x ∷ filter p xs) (filter p xs)) e

  pub filter_drops : (x : X) (xs : List X) → p x ≡ false → filter p (x ∷ xs) ≡ filter p xs
  filter_drops x xs e = ap (λ b. cond b (x ∷ filter p xs) (filter p xs)) e

  pub in_filter : (xs : List X) (x : X) → Contains xs x → p x ≡ true → Contains (filter p xs) x
  in_filter [] x h e = absurd (none_in x h)
  in_filter (y ∷ xs) x h e = elim (in_cases y xs x h) [
    | inl same ↦ subst (λ l. Contains l x) (sym (filter_takes y xs (ap p same ∙ e))) (subst (Contains (y ∷ filter p xs)) same (in_first y (filter p xs)))
    | inr later ↦ elim (cases_Bool (p y)) [
      | inl t ↦ subst (λ l. Contains l x) (sym (filter_takes y xs t)) (in_rest y (filter p xs) x (in_filter xs x later e))
      | inr f ↦ subst (λ l. Contains l x) (sym (filter_drops y xs f)) (in_filter xs x later e)
    ]
  ]

  pub filter_in : (xs : List X) (x : X) → Contains (filter p xs) x → Contains xs x × (p x ≡ true)
  filter_in [] x h = absurd (none_in x h)
  filter_in (y ∷ xs) x h = elim (cases_Bool (p y)) [
    | inl t ↦ elim (in_cases y (filter p xs) x (subst (λ l. Contains l x) (filter_takes y xs t) h)) [
      | inl same ↦ (subst (Contains (y ∷ xs)) same (in_first y xs), ap p (sym same) ∙ t)
      | inr later ↦ let k = filter_in xs x later in (in_rest y xs x k.0, k.1)
    ]
    | inr f ↦ let k = filter_in xs x (subst (λ l. Contains l x) (filter_drops y xs f) h) in (in_rest y xs x k.0, k.1)
  ]

  pub find_here : (x : X) (xs : List X) → p x ≡ true → find p (x ∷ xs) ≡ Some x
  find_here x xs e = ap (λ b. cond b (Some x) (find p xs)) e

  pub find_later : (x : X) (xs : List X) → p x ≡ false → find p (x ∷ xs) ≡ find p xs
  find_later x xs e = ap (λ b. cond b (Some x) (find p xs)) e

  pub finds_some : (xs : List X) (x : X) → Contains xs x → p x ≡ true → IsSome (find p xs)
  finds_some [] x h e = absurd (none_in x h)
  finds_some (y ∷ xs) x h e = elim (cases_Bool (p y)) [
    | inl t ↦ ap is_some (find_here y xs t)
    | inr f ↦ subst IsSome (sym (find_later y xs f)) (elim (in_cases y xs x h) [
      | inl same ↦ absurd (both_ways (p x) (ap p (sym same) ∙ f) e)
      | inr later ↦ finds_some xs x later e
    ])
  ]

  pub found_in : (xs : List X) (x : X) → find p xs ≡ Some x → Contains xs x × (p x ≡ true)
  found_in [] x e = cc
  found_in (y ∷ xs) x e = elim (cases_Bool (p y)) [
    | inl t ↦
        let two : ◌≡◌ {A = Option X} (Some y) (Some x) = sym (find_here y xs t) ∙ e in
        let same : y ≡ x = cc in
        (subst (Contains (y ∷ xs)) same (in_first y xs), ap p (sym same) ∙ t)
    | inr f ↦ let k = found_in xs x (sym (find_later y xs f) ∙ e) in (in_rest y xs x k.0, k.1)
  ]
