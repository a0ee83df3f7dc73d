-- Rows of numbers that are kept in one list.
use Rattle.std.proofs.Common.{◌≡◌, ℕ, zero, suc, ◌+◌, ◌-◌, ◌<◌, ◌≤◌, List, [], ◌∷◌, ◌++◌, length, take, drop, refl, sym, ap, ◌∙◌, subst, arith}
use Rattle.std.proofs.lemmas.List.{drop-append-le, take-append-le, drop_at, drop-take, take_all, length-drop, length-append}
use Rattle.std.specs.Prelude.{slice_range, slice_index_or}
use Rattle.mm_endless.specs.Rows.{rows_from, Ascend, begin_of}

-- where the row of a number begins, if the first begins at `from`
abbrev begin_from : ℕ → List ℕ → ℕ → ℕ
begin_from from ends zero = from
begin_from from ends (suc k) = slice_index_or ends k 0

begin_later : (from e : ℕ) (ends : List ℕ) (k : ℕ) → begin_from e ends k ≡ slice_index_or (e ∷ ends) k 0
begin_later from e ends zero = refl
begin_later from e ends (suc k) = refl

row_from : (xs : List ℕ) (from : ℕ) (ends : List ℕ) (k : ℕ) → k < length ends → slice_index_or (rows_from xs from ends) k [] ≡ slice_range xs (begin_from from ends k) (slice_index_or ends k 0)
row_from xs from [] k lt = absurd (omega arith)
row_from xs from (e ∷ ends) zero lt = refl
row_from xs from (e ∷ ends) (suc k) lt =
    row_from xs e ends k (omega (arith, lt)) ∙ ap (λ b. slice_range xs b (slice_index_or ends k 0)) (begin_later from e ends k)

pub rows_len : (xs : List ℕ) (from : ℕ) (ends : List ℕ) → length (rows_from xs from ends) ≡ length ends
rows_len xs from [] = refl
rows_len xs from (e ∷ ends) = ap suc (rows_len xs e ends)

pub record IsRow (n : ℕ) (begin end : ℕ) : Type 0 where
  pub order : begin ≤ end
  pub inside : end ≤ n

ascends : (from : ℕ) (ends : List ℕ) (n : ℕ) → Ascend from ends n → from ≤ n
ascends from [] n h = omega (arith, h)
ascends from (e ∷ ends) n h = let a = h.0 in let b = ascends e ends n h.1 in omega (arith, a, b)

row_order : (from : ℕ) (ends : List ℕ) (n k : ℕ) → Ascend from ends n → k < length ends → IsRow n (begin_from from ends k) (slice_index_or ends k 0)
row_order from [] n k h lt = absurd (omega arith)
row_order from (e ∷ ends) n zero h lt = record { order = h.0; inside = ascends e ends n h.1 }
row_order from (e ∷ ends) n (suc k) h lt = subst (λ b. IsRow n b (slice_index_or ends k 0)) (begin_later from e ends k) (row_order e ends n k h.1 (omega (arith, lt)))

begin_first : (ends : List ℕ) (k : ℕ) → begin_from 0 ends k ≡ begin_of ends k
begin_first ends zero = refl
begin_first ends (suc k) = refl

pub row_at : (xs ends : List ℕ) (k : ℕ) → k < length ends → slice_index_or (rows_from xs 0 ends) k [] ≡ slice_range xs (begin_of ends k) (slice_index_or ends k 0)
row_at xs ends k lt = row_from xs 0 ends k lt ∙ ap (λ b. slice_range xs b (slice_index_or ends k 0)) (begin_first ends k)

pub row_inside : (ends : List ℕ) (n k : ℕ) → Ascend 0 ends n → k < length ends → IsRow n (begin_of ends k) (slice_index_or ends k 0)
row_inside ends n k h lt = subst (λ b. IsRow n b (slice_index_or ends k 0)) (begin_first ends k) (row_order 0 ends n k h lt)

-- A row more.

row_stays : (xs ys : List ℕ) (a b : ℕ) → a ≤ b → b ≤ length xs → slice_range (xs ++ ys) a b ≡ slice_range xs a b
row_stays xs ys a b le inside =
    ap (take (b - a)) (drop-append-le a xs ys (omega (arith, le, inside)))
    ∙ take-append-le (b - a) (drop a xs) ys (let n = length-drop a xs in omega (arith, n, le, inside))

last_row : (xs ys : List ℕ) → slice_range (xs ++ ys) (length xs) (length xs + length ys) ≡ ys
last_row xs ys =
    ap (take (length xs + length ys - length xs)) (drop_at xs ys (length xs) refl) ∙ take_all (length xs + length ys - length xs) ys (omega arith)

rows_more : (xs ys : List ℕ) (from : ℕ) (ends : List ℕ) → Ascend from ends (length xs)
    → rows_from (xs ++ ys) from (ends ++ (length xs + length ys) ∷ []) ≡ rows_from xs from ends ++ ys ∷ []
rows_more xs ys from [] h = ap (λ r. r ∷ []) (ap (λ a. slice_range (xs ++ ys) a (length xs + length ys)) h ∙ last_row xs ys)
rows_more xs ys from (e ∷ ends) h =
    let inside = ascends e ends (length xs) h.1 in
    ap (λ r. r ∷ rows_from (xs ++ ys) e (ends ++ (length xs + length ys) ∷ [])) (row_stays xs ys from e h.0 inside)
    ∙ ap (λ l. slice_range xs from e ∷ l) (rows_more xs ys e ends h.1)

pub row_more : (xs ys ends : List ℕ) → Ascend 0 ends (length xs) → rows_from (xs ++ ys) 0 (ends ++ (length xs + length ys) ∷ []) ≡ rows_from xs 0 ends ++ ys ∷ []
row_more xs ys ends h = rows_more xs ys 0 ends h

ascend_from : (from : ℕ) (ends : List ℕ) (n m : ℕ) → Ascend from ends n → n ≤ m → Ascend from (ends ++ m ∷ []) m
ascend_from from [] n m h le = (omega (arith, h, le), refl)
ascend_from from (e ∷ ends) n m h le = (h.0, ascend_from e ends n m h.1 le)

pub ascend_more : (xs ys ends : List ℕ) → Ascend 0 ends (length xs) → Ascend 0 (ends ++ (length xs + length ys) ∷ []) (length (xs ++ ys))
ascend_more xs ys ends h = subst (Ascend 0 (ends ++ (length xs + length ys) ∷ [])) (sym (length-append xs ys)) (ascend_from 0 ends (length xs) (length xs + length ys) h (omega arith))

pub begin_at : (ends : List ℕ) (k : ℕ) → (k ≡ 0 → ⊥) → begin_of ends k ≡ slice_index_or ends (k - 1) 0
begin_at ends zero h = absurd (h refl)
begin_at ends (suc k) h = ap (λ n. slice_index_or ends n 0) (let e : k ≡ suc k - 1 = omega arith in e)

pub begin_none : (ends : List ℕ) (k : ℕ) → k ≡ 0 → begin_of ends k ≡ 0
begin_none ends zero h = refl
begin_none ends (suc k) h = absurd (omega (arith, h))

-- what is left of the front of a list
pub cut : (xs : List ℕ) (begin end : ℕ) → begin ≤ end → drop begin (take end xs) ≡ slice_range xs begin end
cut xs begin end le = ap (λ n. drop begin (take n xs)) (let e : end ≡ begin + (end - begin) = omega (arith, le) in e) ∙ drop-take begin (end - begin) xs
