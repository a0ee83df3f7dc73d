-- The cells of a mapped page, and pages by their places in the list.
use Rattle.std.proofs.Common.{◌≡◌, ℕ, zero, suc, ◌+◌, ◌*◌, ◌%◌, ◌<◌, ◌^◌, true, List, [], ◌∷◌, length, map, Option}
use Rattle.std.proofs.Common.{Some, None, slice_get, slice_index_or, refl, ap, ◌∙◌, arith}
use Rattle.std.specs.Option.{is_some}
use Rattle.mm_word.specs.declared.word.Cell.{Cell}
use Rattle.mm_model.specs.Memory.{Memory, page_of, place_of, page_at, is_mapped, cell_in, cell_at, zero_cell, IsPage}
use Rattle.mm_model.{specs.{Memory.IsPaged, Report.cells_or_zero}, proofs.Memories.{page_whole, cell_at-aligned}}
use Rattle.mm_mem.{specs.Places.IsAt, proofs.Flats.mapped_here}

pub got : {X : Type 0} (xs : List X) (i : ℕ) (d : X) → i < length xs → slice_get xs i ≡ Some (slice_index_or xs i d)
got [] i d h = absurd (omega arith)
got (x ∷ xs) zero d h = refl
got (x ∷ xs) (suc i) d h = got xs i d (omega arith)

pub any_default : {X : Type 0} (xs : List X) (i : ℕ) (d e : X) → i < length xs → slice_index_or xs i d ≡ slice_index_or xs i e
any_default xs i d e h = let a = got xs i d h in let b = got xs i e h in cc

pub some_same : {A : Type 0} {x y : A} → Some x ≡ Some y → x ≡ y
some_same e = cc

-- 1. The cells of a mapped page.

pub page_there : (m : Memory) (p : ℕ) → is_mapped m p ≡ true → page_at m p ≡ Some (cells_or_zero (page_at m p))
page_there m p mapped = go (page_at m p) refl mapped
  where
    go : (o : Option (List Cell)) → page_at m p ≡ o → is_some o ≡ true → page_at m p ≡ Some (cells_or_zero (page_at m p))
    go None e h = cc
    go (Some cells) e h = rw e refl

pub page_is : (m : Memory) (p : ℕ) → IsPaged m → is_mapped m p ≡ true → IsPage (p, cells_or_zero (page_at m p))
page_is m p paged mapped = page_whole m paged p (cells_or_zero (page_at m p)) (page_there m p mapped)

pub cell_there : (m : Memory) (p i : ℕ) → IsPaged m → is_mapped m p ≡ true → i < 512 → cell_at m (p * 4096 + 8 * i) ≡ Some (slice_index_or (cells_or_zero (page_at m p)) i zero_cell)
cell_there m p i paged mapped h =
    let w : ℕ = p * 4096 + 8 * i in
    let aligned : w % 8 ≡ 0 = omega arith in
    let page : page_of w ≡ p = omega arith in
    let place : place_of w ≡ i = omega arith in
    cell_at-aligned m w aligned
    ∙ ap (λ (q : ℕ). cell_in (page_at m q) (place_of w)) page
    ∙ ap (λ (k : ℕ). cell_in (page_at m p) k) place
    ∙ ap (λ (o : Option (List Cell)). cell_in o i) (page_there m p mapped)
    ∙ got (cells_or_zero (page_at m p)) i zero_cell (let size = (page_is m p paged mapped).cells in omega arith)

-- 2. Pages by their places.

pub at_place : (es : List (ℕ × List Cell)) (i n : ℕ) → slice_get (map (λ e. e.0) es) i ≡ Some n → IsAt n es i
at_place [] i n e = cc
at_place (x ∷ es) zero n e = record { in_range = omega arith; has_number = λ d. some_same e }
at_place (x ∷ es) (suc i) n e = let later = at_place es i n e in record { in_range = omega (arith, later.in_range); has_number = later.has_number }

module _ (m : Memory) (i n : ℕ) (paged : IsPaged m) (is : slice_get (map (λ (e : ℕ × List Cell). e.0) m.pages) i ≡ Some n) where
  pub place_mapped : is_mapped m n ≡ true
  place_mapped = mapped_here m n i paged (at_place m.pages i n is)

  pub place_number : n < 2 ^ 42
  place_number = (page_is m n paged place_mapped).number
