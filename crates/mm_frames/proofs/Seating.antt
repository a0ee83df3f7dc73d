-- Pages that are copied into frames one by one.
use Rattle.std.proofs.Common.{◌≡◌, ℕ, ◌+◌, ◌<◌, List, [], ◌∷◌, ◌++◌, length, take, get_or, set, sym, ap, subst, ◌∙◌}
use Rattle.std.{proofs.lemmas.List.{take_more, get_or-set_same, get_or-set_other}, specs.List.AllByRecursion}
use Rattle.mm_word.specs.declared.word.Cell.{Cell}
use Rattle.mm_model.specs.Memory.{IsPage}
use Rattle.mm_frames.{specs.Framed.rows_with, proofs.Rows.{paired, append_paired, paired_apart}}

all_push : (pages : List (ℕ × List Cell)) (page : ℕ × List Cell) → AllByRecursion IsPage pages → IsPage page → AllByRecursion IsPage (pages ++ page ∷ [])
all_push [] page h new = (new, tt)
all_push (p ∷ pages) page h new = (h.0, all_push pages page h.1 new)

pub whole_more : (pages : List (ℕ × List Cell)) (i : ℕ) (page : ℕ × List Cell) → i < length pages → page ≡ get_or pages i page → AllByRecursion IsPage (take i pages) → IsPage page
    → AllByRecursion IsPage (take (i + 1) pages)
whole_more pages i page some is h new =
    let all : List (ℕ × List Cell) → Type 0 = λ es. AllByRecursion IsPage es in
    subst all (ap (λ (e : ℕ × List Cell). take i pages ++ e ∷ []) is ∙ sym (take_more pages i page some)) (all_push (take i pages) page h new)

pub seat_more : (cells : List (List Cell)) (rows : List (ℕ × ℕ)) (pages : List (ℕ × List Cell)) (i : ℕ) (page : ℕ × List Cell) → i < length cells → i < length pages → page ≡ get_or pages i page
    → rows_with i rows ≡ 0 → paired (λ frame. get_or cells frame []) rows ≡ take i pages
    → paired (λ frame. get_or (set cells i page.1) frame []) (rows ++ (page.0, i) ∷ []) ≡ take (i + 1) pages
seat_more cells rows pages i page free some is none seated =
    let g : ℕ → List Cell = λ frame. get_or (set cells i page.1) frame [] in
    let h : ℕ → List Cell = λ frame. get_or cells frame [] in
    append_paired g rows ((page.0, i) ∷ [])
    ∙ ap (λ es. es ++ (page.0, g i) ∷ []) (paired_apart g h i (λ n ne. get_or-set_other cells i n page.1 [] ne) rows none ∙ seated)
    ∙ ap (λ new. take i pages ++ (page.0, new) ∷ []) (get_or-set_same cells i page.1 [] free)
    ∙ ap (λ (e : ℕ × List Cell). take i pages ++ e ∷ []) is
    ∙ sym (take_more pages i page some)
