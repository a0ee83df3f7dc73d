-- The memory of pages that are filled one after another has one list's cells.
use Rattle.std.proofs.Common.{◌≡◌, ℕ, zero, suc, ◌+◌, ◌-◌, ◌*◌, ◌/◌, ◌%◌, ◌<◌, ◌≤◌, Bool, true, false, cond, nat_eq}
use Rattle.std.proofs.Common.{List, [], ◌∷◌, ◌++◌, length, get_or, take, drop, replicate, slice_get, Some, refl, sym}
use Rattle.std.proofs.{Common.{ap, ◌∙◌, arith, eqb-true, eq-eqb, ne_eqb}, lemmas.List.{drop-drop, get_or-drop}}
use Rattle.std.specs.{Ordering.nat_cmp, FinMap.find, Cmp.unsigned_tied}
use Rattle.mm_word.specs.declared.word.Cell.{Cell}
use Rattle.mm_model.specs.Memory.{Memory, cell_at, cell_in, page_at, page_of, place_of, zero_cell, zero_page}
use Rattle.mm_model.proofs.Memories.{cell_at-aligned, aligned, page_of_cell}
use Rattle.mm_link.specs.{Placing.origin, Linked.{pages_from, first_page}}

module _ {A : Type 0} where
  -- the items of a list, and behind them so many of one kind
  pub padded : (xs : List A) (n m j : ℕ) (c : A) → j < n → n ≤ length xs + m → slice_get (take n (xs ++ replicate m c)) j ≡ Some (get_or xs j c)
  padded [] zero m j c lt le = absurd (omega arith)
  padded [] (suc n) zero j c lt le = absurd (omega arith)
  padded [] (suc n) (suc m) zero c lt le = refl
  padded [] (suc n) (suc m) (suc j) c lt le = padded [] n m j c (omega arith) (omega arith)
  padded (x ∷ xs) zero m j c lt le = absurd (omega arith)
  padded (x ∷ xs) (suc n) m zero c lt le = refl
  padded (x ∷ xs) (suc n) m (suc j) c lt le = padded xs n m j c (omega arith) (omega arith)

step : (q number : ℕ) (e : List Cell) (rest : List (ℕ × List Cell)) (b : Bool) → nat_eq q number ≡ b → find nat_cmp q ((number, e) ∷ rest) ≡ cond b (Some e) (find nat_cmp q rest)
step q number e rest b is = ap (λ t. cond t (Some e) (find nat_cmp q rest)) (unsigned_tied q number ∙ is)

-- page k from the first on has the cells from 512 k on
pub page_there : (count number k : ℕ) (cells : List Cell) → k < count
    → find nat_cmp (number + k) (pages_from count number cells) ≡ Some (take 512 (drop (512 * k) cells ++ zero_page))
page_there zero number k cells lt = absurd (omega arith)
page_there (suc count) number zero cells lt =
    step (number + 0) number (take 512 (cells ++ zero_page)) (pages_from count (number + 1) (drop 512 cells)) true (eq-eqb (number + 0) number (omega arith))
page_there (suc count) number (suc k) cells lt =
    let first = step (number + suc k) number (take 512 (cells ++ zero_page)) (pages_from count (number + 1) (drop 512 cells)) false (ne_eqb (number + suc k) number (λ e. omega arith)) in
    let same : number + suc k ≡ number + 1 + k = omega arith in
    let far : 512 + 512 * k ≡ 512 * suc k = omega arith in
    first ∙ ap (λ q. find nat_cmp q (pages_from count (number + 1) (drop 512 cells))) same ∙ page_there count (number + 1) k (drop 512 cells) (omega arith)
    ∙ ap (λ xs. Some (take 512 (xs ++ zero_page))) (drop-drop (512 * k) 512 cells ∙ ap (λ n. drop n cells) far)

-- and there is no other page
pub page_within : (count number q : ℕ) (cells found : List Cell) → find nat_cmp q (pages_from count number cells) ≡ Some found → (number ≤ q) × (q < number + count)
page_within zero number q cells found e = absurd cc
page_within (suc count) number q cells found e = by (nat_eq q number) refl (page_within count (number + 1) q (drop 512 cells) found)
  where
    by : (b : Bool) → nat_eq q number ≡ b → (find nat_cmp q (pages_from count (number + 1) (drop 512 cells)) ≡ Some found → (number + 1 ≤ q) × (q < number + 1 + count))
        → (number ≤ q) × (q < number + suc count)
    by true is later = let same : q ≡ number = eqb-true q number is in (omega arith, omega arith)
    by false is later =
        let r = later (sym (step q number (take 512 (cells ++ zero_page)) (pages_from count (number + 1) (drop 512 cells)) false is) ∙ e) in
        (omega (arith, r.0), omega (arith, r.1))

module _ (count frames : ℕ) (cells : List Cell) where
  abbrev pub paged : Memory
  paged = record { pages = pages_from count first_page cells; frames = frames }

  -- a cell of the list stands 8 bytes behind the one before it
  pub cell_there : (j : ℕ) → j < 512 * count → cell_at paged (origin + 8 * j) ≡ Some (get_or cells j zero_cell)
  cell_there j lt =
      let w = origin + 8 * j in
      let k = j / 512 in
      let page : page_of w ≡ first_page + k = omega arith in
      let place : place_of w ≡ j % 512 = omega arith in
      let back : 512 * k + j % 512 ≡ j = omega arith in
      let there : page_at paged (page_of w) ≡ Some (take 512 (drop (512 * k) cells ++ zero_page)) = ap (page_at paged) page ∙ page_there count first_page k cells (omega arith) in
      cell_at-aligned paged w (omega arith) ∙ ap (λ o. cell_in o (place_of w)) there ∙ ap (slice_get (take 512 (drop (512 * k) cells ++ zero_page))) place
      ∙ padded (drop (512 * k) cells) 512 512 (j % 512) zero_cell (omega arith) (omega arith) ∙ ap Some (get_or-drop (512 * k) cells (j % 512) zero_cell ∙ ap (λ n. get_or cells n zero_cell) back)

  -- and each cell of the memory is one of them
  pub cell_within : (w : ℕ) (cell : Cell) → cell_at paged w ≡ Some cell → (j : ℕ) × (j < 512 * count) × (w ≡ origin + 8 * j) × (cell ≡ get_or cells j zero_cell)
  cell_within w cell e =
      let even = aligned paged w cell e in
      let page = page_of_cell paged w cell e in
      let bounds = page_within count first_page (page_of w) cells page.0 page.1 in
      let low = bounds.0 in
      let high = bounds.1 in
      let j : ℕ = (w - origin) / 8 in
      let is : w ≡ origin + 8 * j = omega arith in
      let few : j < 512 * count = omega arith in
      let here = cell_there j few in
      let both : Some cell ≡ Some (get_or cells j zero_cell) = sym e ∙ ap (cell_at paged) is ∙ here in
      (j, few, is, cc)
