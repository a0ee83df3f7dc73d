-- Whether a page is mapped, by its first cell.
use Rattle.std.proofs.Common.{◌≡◌, ℕ, ◌*◌, ◌%◌, ◌^◌, ◌≤◌, false, List, [], ◌∷◌, length, Option, Some, None, is_some}
use Rattle.std.proofs.Common.{refl, sym, ap, ◌∙◌, arith}
use Rattle.mm_word.specs.declared.word.Cell.{Cell}
use Rattle.mm_model.specs.Memory.{Memory, page_of, place_of, page_at, is_mapped, cell_in, cell_at, IsPaged}
use Rattle.mm_model.proofs.Memories.{cell_at-aligned, page_whole}

first_there : (o : Option (List Cell)) → ((cells : List Cell) → o ≡ Some cells → length cells ≡ 512) → is_some (cell_in o 0) ≡ is_some o
first_there None whole = refl
first_there (Some []) whole = absurd (omega (arith, whole [] refl))
first_there (Some (c ∷ cells)) whole = refl

pub mapped_by : (m x : Memory) (p : ℕ) (o : Option Cell) → IsPaged x → x ≡ m → o ≡ cell_at x (p * 4096) → is_some o ≡ is_mapped m p
mapped_by m x p o paged same is =
    let even : p * 4096 % 8 ≡ 0 = omega arith in
    let page : page_of (p * 4096) ≡ p = omega arith in
    let place : place_of (p * 4096) ≡ 0 = omega arith in
    ap is_some is
    ∙ ap is_some (cell_at-aligned x (p * 4096) even ∙ ap (λ q. cell_in (page_at x q) (place_of (p * 4096))) page ∙ ap (cell_in (page_at x p)) place)
    ∙ first_there (page_at x p) (λ cells found. (page_whole x paged p cells found).cells)
    ∙ ap (λ (y : Memory). is_mapped y p) same

pub mapped_not : (m x : Memory) (p : ℕ) → IsPaged x → x ≡ m → 2 ^ 42 ≤ p → false ≡ is_mapped m p
mapped_not m x p paged same high = by (page_at x p) refl ∙ ap (λ (y : Memory). is_mapped y p) same
  where
    by : (o : Option (List Cell)) → page_at x p ≡ o → false ≡ is_mapped x p
    by None found = sym (ap is_some found)
    by (Some cells) found = absurd (let low = (page_whole x paged p cells found).number in omega arith)
