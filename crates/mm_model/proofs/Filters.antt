-- What a filter keeps of a list.
use Rattle.std.proofs.Common.{◌≡◌, zero, suc, ◌≤◌, inl, inr, Bool, true, false, cond, List, [], ◌∷◌, ◌++◌, append-nil}
use Rattle.std.proofs.Common.{length, refl, sym, ap, ◌∙◌, subst, arith}
use Rattle.std.proofs.lemmas.{Bool.cases_Bool, List.Elements.filter-append}
use Rattle.std.specs.{Prelude.Contains, List.{AllByRecursion, filter}}

module _ {A : Type 0} (p : A → Bool) where
  pub filter_takes : (x : A) (xs : List A) → p x ≡ true → filter p (x ∷ xs) ≡ x ∷ filter p xs
  filter_takes x xs e = ap (λ b. cond b (x ∷ filter p xs) (filter p xs)) e

  pub filter_drops : (x : A) (xs : List A) → p x ≡ false → filter p (x ∷ xs) ≡ filter p xs
  filter_drops x xs e = ap (λ b. cond b (x ∷ filter p xs) (filter p xs)) e

  pub contained_filter : (xs : List A) (x : A) → Contains xs x → p x ≡ true → Contains (filter p xs) x
  contained_filter [] x h e = absurd (omega (arith, h.1))
  contained_filter (y ∷ xs) x (zero, lt, is) e = subst (λ l. Contains l x) (sym (filter_takes y xs (ap p is ∙ e))) (0, omega arith, is)
  contained_filter (y ∷ xs) x (suc k, lt, is) e =
      let rest = contained_filter xs x (k, omega arith, is) e in
      elim (cases_Bool (p y)) [
        | inl t ↦ subst (λ l. Contains l x) (sym (filter_takes y xs t)) (suc rest.0, omega (arith, rest.1), rest.2)
        | inr f ↦ subst (λ l. Contains l x) (sym (filter_drops y xs f)) rest
      ]

  pub filter_contained : (xs : List A) (x : A) → Contains (filter p xs) x → Contains xs x × (p x ≡ true)
  filter_contained [] x h = absurd (omega (arith, h.1))
  filter_contained (y ∷ xs) x h =
      elim (cases_Bool (p y)) [
        | inl t ↦ taken t (subst (λ l. Contains l x) (filter_takes y xs t) h) (λ k. filter_contained xs x k)
        | inr f ↦ let rest = filter_contained xs x (subst (λ l. Contains l x) (filter_drops y xs f) h) in ((suc rest.0.0, omega (arith, rest.0.1), rest.0.2), rest.1)
      ]
    where
      taken : p y ≡ true → Contains (y ∷ filter p xs) x → (Contains (filter p xs) x → Contains xs x × (p x ≡ true)) → Contains (y ∷ xs) x × (p x ≡ true)
      taken t (zero, lt, is) later = ((0, omega arith, is), sym (ap p is) ∙ t)
      taken t (suc k, lt, is) later = let rest = later (k, omega arith, is) in ((suc rest.0.0, omega (arith, rest.0.1), rest.0.2), rest.1)

  pub each_filter : (P : A → Type 0) (xs : List A) → AllByRecursion P xs → AllByRecursion (λ (x : A). P x × (p x ≡ true)) (filter p xs)
  each_filter P [] h = tt
  each_filter P (x ∷ xs) h = elim (cases_Bool (p x)) [
    | inl t ↦ subst (AllByRecursion (λ (y : A). P y × (p y ≡ true))) (sym (filter_takes x xs t)) ((h.0, t), each_filter P xs h.1)
    | inr f ↦ subst (AllByRecursion (λ (y : A). P y × (p y ≡ true))) (sym (filter_drops x xs f)) (each_filter P xs h.1)
  ]

  pub filter_short : (xs : List A) → length (filter p xs) ≤ length xs
  filter_short [] = omega arith
  filter_short (x ∷ xs) = by (p x) (filter_short xs)
    where
      by : (b : Bool) → length (filter p xs) ≤ length xs → length (cond b (x ∷ filter p xs) (filter p xs)) ≤ suc (length xs)
      by true h = omega arith
      by false h = omega arith

  pub filter_again : (xs : List A) → filter p (filter p xs) ≡ filter p xs
  filter_again [] = refl
  filter_again (x ∷ xs) = elim (cases_Bool (p x)) [
    | inl t ↦ ap (filter p) (filter_takes x xs t) ∙ filter_takes x (filter p xs) t ∙ ap (λ (l : List A). x ∷ l) (filter_again xs) ∙ sym (filter_takes x xs t)
    | inr f ↦ ap (filter p) (filter_drops x xs f) ∙ filter_again xs ∙ sym (filter_drops x xs f)
  ]

  -- one element more
  pub filter_last_in : (xs : List A) (x : A) → p x ≡ true → filter p (xs ++ x ∷ []) ≡ filter p xs ++ x ∷ []
  filter_last_in xs x e = filter-append p xs (x ∷ []) ∙ ap (λ l. filter p xs ++ l) (filter_takes x [] e)

  pub filter_last_out : (xs : List A) (x : A) → p x ≡ false → filter p (xs ++ x ∷ []) ≡ filter p xs
  filter_last_out xs x e = filter-append p xs (x ∷ []) ∙ ap (λ l. filter p xs ++ l) (filter_drops x [] e) ∙ append-nil (filter p xs)
