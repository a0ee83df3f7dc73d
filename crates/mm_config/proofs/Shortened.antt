-- Rows of numbers without the last ones.
use Rattle.std.proofs.Common.{◌≡◌, ℕ, zero, suc, ◌+◌, ◌-◌, ◌≤◌, List, [], ◌∷◌, ◌++◌, length, take, drop, refl, ap, ◌∙◌, arith}
use Rattle.std.proofs.Math.Seq.{take-append_seam}
use Rattle.std.proofs.lemmas.List.{drop-take, take-take, length-append}
use Rattle.std.specs.Prelude.{slice_range, slice_index_or}
use Rattle.mm_endless.specs.Rows.{rows_from, Ascend, begin_of}

-- the end of the last row, or where the first would begin
abbrev pub last_end : ℕ → List ℕ → ℕ
last_end from [] = from
last_end from (e ∷ ends) = last_end e ends

end_later : (e : ℕ) (ends : List ℕ) → slice_index_or (e ∷ ends) (length ends) 0 ≡ last_end e ends
end_later e [] = refl
end_later e (f ∷ ends) = end_later f ends

pub begin_last : (ends : List ℕ) → begin_of ends (length ends) ≡ last_end 0 ends
begin_last [] = refl
begin_last (e ∷ ends) = end_later e ends

-- the first rows
pub rows_front : (xs : List ℕ) (from : ℕ) (ends : List ℕ) (k : ℕ) → rows_from xs from (take k ends) ≡ take k (rows_from xs from ends)
rows_front xs from ends zero = refl
rows_front xs from [] (suc k) = refl
rows_front xs from (e ∷ ends) (suc k) = ap (λ l. slice_range xs from e ∷ l) (rows_front xs e ends k)

pub ascend_front : (from : ℕ) (ends : List ℕ) (n k : ℕ) → Ascend from ends n → Ascend from (take k ends) (last_end from (take k ends))
ascend_front from ends n zero h = refl
ascend_front from [] n (suc k) h = refl
ascend_front from (e ∷ ends) n (suc k) h = (h.0, ascend_front e ends n k h.1)

ascends : (from : ℕ) (ends : List ℕ) (n : ℕ) → Ascend from ends n → from ≤ n
ascends from [] n h = omega (arith, h)
ascends from (e ∷ ends) n h = let a = h.0 in let b = ascends e ends n h.1 in omega (arith, a, b)

pub front_ends : (from : ℕ) (ends : List ℕ) (n k : ℕ) → Ascend from ends n → last_end from (take k ends) ≤ n
front_ends from ends n zero h = ascends from ends n h
front_ends from [] n (suc k) h = ascends from [] n h
front_ends from (e ∷ ends) n (suc k) h = front_ends e ends n k h.1

-- rows stay when the list is cut behind them
row_stays : (xs : List ℕ) (a b m : ℕ) → a ≤ b → b ≤ m → slice_range (take m xs) a b ≡ slice_range xs a b
row_stays xs a b m le inside =
    let split : m ≡ a + (m - a) = omega (arith, le, inside) in
    ap (λ n. take (b - a) (drop a (take n xs))) split ∙ ap (take (b - a)) (drop-take a (m - a) xs)
    ∙ take-take (b - a) (m - a) (drop a xs) (omega (arith, le, inside))

pub rows_stay : (xs : List ℕ) (from : ℕ) (ends : List ℕ) (m : ℕ) → Ascend from ends m → rows_from (take m xs) from ends ≡ rows_from xs from ends
rows_stay xs from [] m h = refl
rows_stay xs from (e ∷ ends) m h =
    ap (λ r. r ∷ rows_from (take m xs) e ends) (row_stays xs from e m h.0 (ascends e ends m h.1))
    ∙ ap (λ l. slice_range xs from e ∷ l) (rows_stay xs e ends m h.1)

-- all but the last
pub without_last : {A : Type 0} (all kept : List A) (last : A) (n : ℕ) → n ≡ length all → all ≡ kept ++ last ∷ [] → take (n - 1) all ≡ kept
without_last all kept last n count is =
    let long = ap length is in
    let both = length-append kept (last ∷ []) in
    let front : n - 1 ≡ length kept = omega (arith, long, both, count) in
    ap (λ k. take k all) front ∙ ap (take (length kept)) is ∙ take-append_seam kept (last ∷ [])
