-- Lists of what a function gives at numbers one after the other.
use Rattle.std.proofs.Common.{◌≡◌, ℕ, zero, suc, ◌+◌, ◌<◌, ◌≤◌, List, [], ◌∷◌, length, get_or, drop, map, refl, sym, ap}
use Rattle.std.{proofs.Common.{◌∙◌, arith}, specs.List.range_with_len}

pub map-map : {A B C : Type 0} (g : B → C) (f : A → B) (xs : List A) → map g (map f xs) ≡ map (λ x. g (f x)) xs
map-map g f [] = refl
map-map g f (x ∷ xs) = ap (λ ys. g (f x) ∷ ys) (map-map g f xs)

pub map-same : {A : Type 0} (f g : ℕ → A) (from n : ℕ) → ((k : ℕ) → from ≤ k → k < from + n → f k ≡ g k) → map f (range_with_len from n) ≡ map g (range_with_len from n)
map-same f g from zero h = refl
map-same f g from (suc n) h = ap (λ x. x ∷ map f (range_with_len (from + 1) n)) (h from (omega arith) (omega arith))
    ∙ ap (λ xs. g from ∷ xs) (map-same f g (from + 1) n (λ k low high. h k (omega arith) (omega arith)))

-- the same, from another number on
pub map-shift : {A : Type 0} (f : ℕ → A) (from by n : ℕ) → map f (range_with_len (by + from) n) ≡ map (λ k. f (by + k)) (range_with_len from n)
map-shift f from by zero = refl
map-shift f from by (suc n) =
    let next : by + from + 1 ≡ by + (from + 1) = omega arith in
    ap (λ xs. f (by + from) ∷ xs) (ap (λ k. map f (range_with_len k n)) next ∙ map-shift f (from + 1) by n)

pub drop-range : {A : Type 0} (f : ℕ → A) (from k n : ℕ) → drop k (map f (range_with_len from (k + n))) ≡ map f (range_with_len (from + k) n)
drop-range f from zero n =
    let a : 0 + n ≡ n = omega arith in
    let b : from + 0 ≡ from = omega arith in
    ap (λ m. map f (range_with_len from m)) a ∙ sym (ap (λ m. map f (range_with_len m n)) b)
drop-range f from (suc k) n =
    let a : suc k + n ≡ suc (k + n) = omega arith in
    let b : from + 1 + k ≡ from + suc k = omega arith in
    ap (λ m. drop (suc k) (map f (range_with_len from m))) a ∙ drop-range f (from + 1) k n ∙ ap (λ m. map f (range_with_len m n)) b

-- a list by its places
pub range-list : {A : Type 0} (f : ℕ → A) (from : ℕ) (xs : List A) → ((k : ℕ) (d : A) → k < length xs → f (from + k) ≡ get_or xs k d) → map f (range_with_len from (length xs)) ≡ xs
range-list f from [] h = refl
range-list f from (x ∷ xs) h =
    let here : from + 0 ≡ from = omega arith in
    let first : f from ≡ x = ap f (sym here) ∙ h 0 x (omega arith) in
    ap (λ y. y ∷ map f (range_with_len (from + 1) (length xs))) first
    ∙ ap (λ ys. x ∷ ys) (range-list f (from + 1) xs (λ k d lt. let next : from + 1 + k ≡ from + suc k = omega arith in ap f next ∙ h (suc k) d (omega arith)))
