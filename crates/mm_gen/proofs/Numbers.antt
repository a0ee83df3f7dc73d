-- Numbers one behind the other, and the cells that hold them.
use Rattle.std.proofs.Common.{◌≡◌, ℕ, zero, suc, ◌+◌, ◌*◌, ◌^◌, ◌<◌, List, [], ◌∷◌, ◌++◌, map, length, refl, ap, ◌∙◌}
use Rattle.std.proofs.Common.{arith, add-one, add-zero}
use Rattle.std.proofs.lemmas.List.FromFn.{length-map-range_with_len, map-range_with_len_more}
use Rattle.std.specs.List.{range_with_len}
use Rattle.mm_gen.specs.{Generated.{next_number, nth_number, full_cell, data_cell, data_cells}, Steps.cells_behind}

-- 1. Numbers.

pub nth_number-none : (number : ℕ) → number ≡ nth_number number 0
unfolding nth_number
nth_number-none number = refl

pub nth_number-more : (number k : ℕ) → nth_number number (k + 1) ≡ next_number (nth_number number k)
unfolding nth_number
nth_number-more number k = rw add-one refl

-- a number of those that a number begins begins the others
pub nth_number-add : (number j k : ℕ) → nth_number (nth_number number j) k ≡ nth_number number (j + k)
unfolding nth_number
nth_number-add number j zero = rw add-zero refl
nth_number-add number j (suc k) =
    let place : suc (j + k) ≡ j + suc k = omega arith in
    ap next_number (nth_number-add number j k) ∙ ap (nth_number number) place

pub nth_number-fits : (number k : ℕ) → number < 2 ^ 64 → nth_number number k < 2 ^ 64
unfolding nth_number
nth_number-fits number zero fits = fits
nth_number-fits number (suc k) fits = omega arith

-- 2. Cells.

pub cells_behind-none : (number : ℕ) → [] ≡ cells_behind number 0
unfolding cells_behind
cells_behind-none number = refl

pub cells_behind-more : (number k : ℕ) → cells_behind number (k + 1) ≡ cells_behind number k ++ full_cell (nth_number number (k + 1)) ∷ []
unfolding cells_behind
cells_behind-more number k = map-range_with_len_more (λ j. full_cell (nth_number number (j + 1))) 0 k k (omega arith)

pub length-cells_behind : (number count : ℕ) → length (cells_behind number count) ≡ count
unfolding cells_behind
length-cells_behind number count = length-map-range_with_len (λ j. full_cell (nth_number number (j + 1))) 0 count

same_map : {A B : Type 0} (f g : A → B) → ((x : A) → f x ≡ g x) → (xs : List A) → map f xs ≡ map g xs
same_map f g same [] = refl
same_map f g same (x ∷ xs) = ap (λ y. y ∷ map f xs) (same x) ∙ ap (λ ys. g x ∷ ys) (same_map f g same xs)

behind : (number slot k : ℕ) → full_cell (nth_number (nth_number number (512 * slot)) (k + 1)) ≡ data_cell number slot k
behind number slot k =
    let place : 512 * slot + (k + 1) ≡ 512 * slot + k + 1 = omega arith in
    ap full_cell (nth_number-add number (512 * slot) (k + 1) ∙ ap (nth_number number) place)

-- the data of a slot
pub cells_behind-data : (number slot : ℕ) → cells_behind (nth_number number (512 * slot)) 512 ≡ data_cells number slot
unfolding cells_behind data_cells
cells_behind-data number slot = same_map (λ j. full_cell (nth_number (nth_number number (512 * slot)) (j + 1))) (data_cell number slot) (behind number slot) (range_with_len 0 512)
