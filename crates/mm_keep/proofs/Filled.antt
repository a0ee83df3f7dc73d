-- An array that a loop fills, element by element, with what a function makes of a list's.
use Rattle.std.proofs.Common.{◌≡◌, ℕ, zero, suc, ◌+◌, ◌<◌, ◌≤◌, List, [], ◌∷◌, ◌++◌, map, length, take, set, get_or}
use Rattle.std.proofs.Common.{refl, sym, ap, ◌∙◌, subst, arith, ◌/◌, ◌^◌, inl, inr, true, nat_eq, eq-eqb}
use Rattle.std.proofs.Math.{Seq.{take-suc, take-suc-set}, Nat.div-eq_of_lt-le}
use Rattle.std.proofs.lemmas.{Nat.pow_below, Bool.cases_lt}

map_push : {A B : Type 0} (f : A → B) (xs : List A) (x : A) → map f (xs ++ x ∷ []) ≡ map f xs ++ f x ∷ []
map_push f [] x = refl
map_push f (y ∷ xs) x = ap (λ l. f y ∷ l) (map_push f xs x)

take_all : {A : Type 0} (xs : List A) → take (length xs) xs ≡ xs
take_all [] = refl
take_all (x ∷ xs) = ap (λ l. x ∷ l) (take_all xs)

pub filled : {A B : Type 0} (f : A → B) (xs : List A) (out : List B) (i : ℕ) (d : A) (v : B) → i < length xs → i < length out
    → v ≡ f (get_or xs i d) → take i out ≡ map f (take i xs) → take (i + 1) (set out i v) ≡ map f (take (i + 1) xs)
filled f xs out i d v lx lo is before =
    let one : i + 1 ≡ suc i = omega arith in
    let left : take (suc i) (set out i v) ≡ take i out ++ v ∷ [] = take-suc-set out i v lo in
    let right : take (suc i) xs ≡ take i xs ++ get_or xs i d ∷ [] = take-suc xs i d lx in
    ap (λ n. take n (set out i v)) one ∙ left ∙ ap (λ l. l ++ v ∷ []) before ∙ ap (λ w. map f (take i xs) ++ w ∷ []) is
    ∙ sym (map_push f (take i xs) (get_or xs i d)) ∙ ap (map f) (sym right) ∙ ap (λ n. map f (take n xs)) (sym one)

pub filled_all : {A B : Type 0} (f : A → B) (xs : List A) (out : List B) (n : ℕ) → length xs ≡ n → length out ≡ n
    → take n out ≡ map f (take n xs) → out ≡ map f xs
filled_all f xs out n lx lo e =
    sym (take_all out) ∙ ap (λ k. take k out) lo ∙ e ∙ ap (λ k. map f (take k xs)) (sym lx) ∙ ap (map f) (take_all xs)

-- the same, where a function takes what is filled in back to the list's elements
pub filled_back : {A B : Type 0} (f : B → A) (xs : List A) (out : List B) (i : ℕ) (d : A) (v : B) → i < length xs → i < length out
    → f v ≡ get_or xs i d → map f (take i out) ≡ take i xs → map f (take (i + 1) (set out i v)) ≡ take (i + 1) xs
filled_back f xs out i d v lx lo is before =
    let one : i + 1 ≡ suc i = omega arith in
    let left : take (suc i) (set out i v) ≡ take i out ++ v ∷ [] = take-suc-set out i v lo in
    let right : take (suc i) xs ≡ take i xs ++ get_or xs i d ∷ [] = take-suc xs i d lx in
    ap (λ n. map f (take n (set out i v))) one ∙ ap (map f) left ∙ map_push f (take i out) v ∙ ap (λ l. l ++ f v ∷ []) before
    ∙ ap (λ w. take i xs ++ w ∷ []) is ∙ sym right ∙ ap (λ n. take n xs) (sym one)

pub filled_back_all : {A B : Type 0} (f : B → A) (xs : List A) (out : List B) (n : ℕ) → length xs ≡ n → length out ≡ n
    → map f (take n out) ≡ take n xs → map f out ≡ xs
filled_back_all f xs out n lx lo e =
    ap (map f) (sym (take_all out)) ∙ ap (λ k. map f (take k out)) lo ∙ e ∙ ap (λ k. take k xs) (sym lx) ∙ take_all xs

-- past the end of a list
pub past_end : {A : Type 0} (xs : List A) (n : ℕ) (d : A) → length xs ≤ n → d ≡ get_or xs n d
past_end [] n d le = refl
past_end (x ∷ xs) zero d le = absurd (omega (arith, le))
past_end (x ∷ xs) (suc n) d le = past_end xs n d (omega (arith, le))

pub set_past_end : {A : Type 0} (xs : List A) (n : ℕ) (v : A) → length xs ≤ n → xs ≡ set xs n v
set_past_end [] n v le = refl
set_past_end (x ∷ xs) zero v le = absurd (omega (arith, le))
set_past_end (x ∷ xs) (suc n) v le = ap (λ l. x ∷ l) (set_past_end xs n v (omega (arith, le)))

powers : (log : ℕ) → 64 ≤ log → 2 ^ 64 ≤ 2 ^ log
powers log le = elim (cases_lt 64 log) [
  | inl lt ↦ let more = pow_below 64 log lt in omega arith
  | inr ge ↦ let same : log ≡ 64 = omega arith in subst (λ n. 2 ^ 64 ≤ 2 ^ n) (sym same) (omega arith)
]

-- a segment as long as the numbers has each of them
pub wide : (a b log : ℕ) → a < 2 ^ 64 → b < 2 ^ 64 → 64 ≤ log → true ≡ nat_eq (a / 2 ^ log) (b / 2 ^ log)
wide a b log la lb le =
    let long = powers log le in
    let za : a / 2 ^ log ≡ 0 = div-eq_of_lt-le (2 ^ log) (omega arith) (omega (arith, la, long)) in
    let zb : b / 2 ^ log ≡ 0 = div-eq_of_lt-le (2 ^ log) (omega arith) (omega (arith, lb, long)) in
    sym (eq-eqb (a / 2 ^ log) (b / 2 ^ log) (za ∙ sym zb))
