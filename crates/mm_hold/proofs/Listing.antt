-- Lists that grow by what each element of another list gives.
use Rattle.std.proofs.Common.{◌≡◌, inl, inr, ℕ, ◌+◌, ◌<◌, ◌≤◌, List, [], ◌∷◌, ◌++◌, length, take, get_or, Some, refl, sym, ap, ◌∙◌}
use Rattle.std.proofs.Common.{slice_get, Bool, true, false, if◌then◌else◌}
use Rattle.std.proofs.lemmas.{List.{flat_map_more, take_all, take_more}, Option.{slice_get_within, get_or_from_slice_get}}
use Rattle.std.specs.{Prelude.Contains, List.flat_map}
use Rattle.mm_span.proofs.Members.{none_in, in_cases}

module _ {X A : Type 0} (f : X → List A) (old : List A) (xs : List X) (k : ℕ) where
  -- with the element at the next index
  pub put_more : (now new : List A) (x : X) → slice_get xs k ≡ Some x → now ≡ old ++ flat_map f (take k xs) → new ≡ now ++ f x
      → new ≡ old ++ flat_map f (take (k + 1) xs)
  put_more now new x at was is =
      is ∙ ap (λ l. l ++ f x) was ∙ flat_map_more f old (take k xs) x
      ∙ ap (λ l. old ++ flat_map f l) (sym (take_more xs k x (slice_get_within xs k x at) ∙ ap (λ y. take k xs ++ y ∷ []) (get_or_from_slice_get xs k x x at)))

  -- with all elements
  pub put_all : (new : List A) → length xs ≤ k → new ≡ old ++ flat_map f (take k xs) → new ≡ old ++ flat_map f xs
  put_all new le is = is ∙ ap (λ l. old ++ flat_map f l) (take_all k xs le)

-- with what is given on a condition that holds
pub put_when : {A : Type 0} (b : Bool) (new old more : List A) → b ≡ true → new ≡ old ++ more → new ≡ old ++ (if b then more else [])
put_when true new old more e is = is
put_when false new old more e is = cc

-- with the element at the next index, of a slice
pub put_next : {X A : Type 0} (f : X → List A) (old : List A) (xs : List X) (k : ℕ) (now new : List A) (x : X) → k < length xs → x ≡ get_or xs k x
    → now ≡ old ++ flat_map f (take k xs) → new ≡ now ++ f x → new ≡ old ++ flat_map f (take (k + 1) xs)
put_next f old xs k now new x lt at was is =
    is ∙ ap (λ l. l ++ f x) was ∙ flat_map_more f old (take k xs) x
    ∙ ap (λ l. old ++ flat_map f l) (sym (take_more xs k x lt ∙ ap (λ y. take k xs ++ y ∷ []) (sym at)))

-- with the element at the next index, of a slice of values
pub put_at : {X A : Type 0} (f : X → List A) (old : List A) (xs : List X) (k : ℕ) (now new : List A) (d : X) → k < length xs
    → now ≡ old ++ flat_map f (take k xs) → new ≡ now ++ f (get_or xs k d) → new ≡ old ++ flat_map f (take (k + 1) xs)
put_at f old xs k now new d lt was is =
    is ∙ ap (λ l. l ++ f (get_or xs k d)) was ∙ flat_map_more f old (take k xs) (get_or xs k d) ∙ ap (λ l. old ++ flat_map f l) (sym (take_more xs k d lt))

module _ {X : Type 0} where
  pub if_in : (b : Bool) (xs : List X) (x : X) → Contains (if b then xs else []) x → (b ≡ true) × Contains xs x
  if_in true xs x h = (refl, h)
  if_in false xs x h = absurd (none_in x h)

  pub in_if : (b : Bool) (xs : List X) (x : X) → b ≡ true → Contains xs x → Contains (if b then xs else []) x
  in_if true xs x e h = h
  in_if false xs x e h = cc

  pub only_in : (x y : X) → Contains (x ∷ []) y → x ≡ y
  only_in x y h = elim (in_cases x [] y h) [ inl same ↦ same | inr none ↦ absurd (none_in y none) ]
