-- How often a frame is among the rows and among the free frames.
use Rattle.std.proofs.Common.{◌≡◌, ℕ, zero, suc, ◌+◌, ◌<◌, ◌≤◌, ◌==◌, nat_lt, List, [], ◌∷◌, ◌++◌, length, get_or}
use Rattle.std.{proofs.{Common.arith, lemmas.Bool.Decides.nat_tests}, specs.List.{insert, remove}}
use Rattle.mm_model.specs.Flags.{one_if}
use Rattle.mm_frames.specs.Framed.{times, rows_with}

pub times_push : (n m : ℕ) (ms : List ℕ) → times n (ms ++ m ∷ []) ≡ times n ms + one_if (n == m)
times_push n m [] = omega arith
times_push n m (x ∷ ms) = omega (arith, times_push n m ms)

pub with_push : (n : ℕ) (row : ℕ × ℕ) (rows : List (ℕ × ℕ)) → rows_with n (rows ++ row ∷ []) ≡ rows_with n rows + one_if (n == row.1)
with_push n row [] = omega arith
with_push n row (x ∷ rows) = omega (arith, with_push n row rows)

pub with_insert : (n : ℕ) (row : ℕ × ℕ) (rows : List (ℕ × ℕ)) (i : ℕ) → rows_with n (insert rows i row) ≡ rows_with n rows + one_if (n == row.1)
with_insert n row [] zero = omega arith
with_insert n row [] (suc i) = omega arith
with_insert n row (x ∷ rows) zero = omega arith
with_insert n row (x ∷ rows) (suc i) = omega (arith, with_insert n row rows i)

pub with_remove : (n : ℕ) (rows : List (ℕ × ℕ)) (i : ℕ) (d : ℕ × ℕ) → i < length rows → rows_with n (remove rows i) + one_if (n == (get_or rows i d).1) ≡ rows_with n rows
with_remove n [] i d lt = absurd (omega arith)
with_remove n (x ∷ rows) zero d lt = omega arith
with_remove n (x ∷ rows) (suc i) d lt = omega (arith, with_remove n rows i d (omega arith))

pub one_if_same : (n : ℕ) → one_if (n == n) ≡ 1
one_if_same n = grind (arith, nat_tests)

pub last_stands : (n : ℕ) (ms : List ℕ) → 1 ≤ times n (ms ++ n ∷ [])
last_stands n ms = omega (arith, times_push n n ms, one_if_same n)

pub below_more : (n i : ℕ) → one_if (nat_lt n i) + one_if (n == i) ≡ one_if (nat_lt n (i + 1))
below_more n i = grind (arith, nat_tests)

-- a frame that is there once is one of the frames
pub in_range : (n k : ℕ) → 1 ≤ one_if (nat_lt n k) → n < k
in_range n k h = grind (arith, nat_tests, h)
