-- No name twice, as a search of those before each finds it and as a test of those behind each does.
use Rattle.std.proofs.Common.{◌≡◌, ℕ, Bool, true, false, not, List, [], ◌∷◌, find, Some, None, refl, sym, ap, ◌∙◌, inl}
use Rattle.std.proofs.Common.{inr, bytes_eq}
use Rattle.std.proofs.lemmas.{Bool.{or_parts, or_from, not-true, and_parts}, Slice.Eq.bytes_eq-Decides}
use Rattle.std.specs.{Prelude.{if◌then◌else◌, ◌&&◌, ◌||◌}, List.list_any}
use Rattle.mm_object.{specs.Objects.{is_among, are_apart}, proofs.{Apartness.turn, Members.{In, none_passes}}}
use Rattle.mm_link.specs.Faults.{first_again}

-- 1. Tests that none or one passes.

pub none_any : {A : Type 0} (p : A → Bool) (xs : List A) → ((x : A) → In x xs → p x ≡ false) → list_any p xs ≡ false
none_any p [] h = refl
none_any p (x ∷ xs) h = or_from (p x) (list_any p xs) (h x (inl refl)) (none_any p xs (λ y is. h y (inr is)))

pub one_any : {A : Type 0} (p : A → Bool) (x : A) (xs : List A) → In x xs → p x ≡ true → list_any p xs ≡ true
one_any p x [] h e = absurd h
one_any p x (y ∷ xs) (inl same) e = ap (λ b. b || list_any p xs) (ap p (sym same) ∙ e)
one_any p x (y ∷ xs) (inr h) e = let later = one_any p x xs h e in elim (p y) as (λ b. (b || list_any p xs) ≡ true) [ true ↦ refl | false ↦ later ]

pub none_found : {A : Type 0} (p : A → Bool) (xs : List A) → ((x : A) → In x xs → p x ≡ false) → find p xs ≡ None
none_found p [] h = refl
none_found p (x ∷ xs) h = ap (λ b. if b then Some x else find p xs) (h x (inl refl)) ∙ none_found p xs (λ y is. h y (inr is))

-- 2. Names.

-- no name is among those before it: then none is among those behind it, nor among others before
pub apart_from_none : (before names : List (List ℕ)) → first_again before names ≡ None → (are_apart names ≡ true) × ((x : List ℕ) → In x names → is_among x before ≡ false)
apart_from_none before [] none = (refl, λ x h. absurd h)
apart_from_none before (name ∷ names) none = by (is_among name before) refl none (apart_from_none (name ∷ before) names)
  where
    by : (b : Bool) → is_among name before ≡ b → (if b then Some name else first_again (name ∷ before) names) ≡ None
        → (first_again (name ∷ before) names ≡ None → (are_apart names ≡ true) × ((x : List ℕ) → In x names → is_among x (name ∷ before) ≡ false))
        → (are_apart (name ∷ names) ≡ true) × ((x : List ℕ) → In x (name ∷ names) → is_among x before ≡ false)
    by true e none later = absurd cc
    by false e none later =
        let rest = later none in
        let alone : is_among name names ≡ false = none_any (bytes_eq name) names (λ x is. turn x name (or_parts (bytes_eq x name) (is_among x before) (rest.1 x is)).0) in (
          ap (λ b. not b && are_apart names) alone ∙ rest.0,
          λ x h. elim h [ inl same ↦ ap (λ y. is_among y before) same ∙ e | inr is ↦ (or_parts (bytes_eq x name) (is_among x before) (rest.1 x is)).1 ],
        )

-- and the other way round
pub none_from_apart : (before names : List (List ℕ)) → are_apart names ≡ true → ((x : List ℕ) → In x names → is_among x before ≡ false) → first_again before names ≡ None
none_from_apart before [] apart others = refl
none_from_apart before (name ∷ names) apart others =
    let parts = and_parts _ _ apart in
    let alone = none_passes (bytes_eq name) names (not-true (is_among name names) parts.0) in
    ap (λ b. if b then Some name else first_again (name ∷ before) names) (others name (inl refl))
    ∙ none_from_apart (name ∷ before) names parts.1 (λ x is. or_from (bytes_eq x name) (is_among x before) (turn name x (alone x is)) (others x (inr is)))
