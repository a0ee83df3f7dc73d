-- The words of cells are ones.
use Rattle.std.proofs.Common.{◌≡◌, ℕ, zero, suc, inl, inr, List, [], ◌∷◌, slice_get, Option, Some, None, refl, sym, ◌∙◌}
use Rattle.std.proofs.{Common.subst, lemmas.List.Elements.{All-from_recursion, All-contains}}
use Rattle.std.specs.List.{AllByRecursion}
use Rattle.mm_word.specs.{declared.word.{Word.TheVariants.Ptr, Cell.Cell}, Word.IsWord, Pointer.{Pointer, IsWellFormed}}
use Rattle.mm_model.specs.{Memory.{Memory, cell_at, cell_in, page_at, page_of, place_of}, Spelling.HoldsWords}
use Rattle.mm_model.proofs.Memories.{cell_at-aligned, cell_at-unaligned, word_or_none}
use Rattle.mm_graph.proofs.Cells.{found_page}

cell_is_word : (cells : List Cell) (k : ℕ) (c : Cell) → AllByRecursion (λ (v : Cell). IsWord v.word) cells → slice_get cells k ≡ Some c → IsWord c.word
cell_is_word [] k c h e = cc
cell_is_word (x ∷ xs) zero c h e = let same : x ≡ c = cc in subst (λ (v : Cell). IsWord v.word) same h.0
cell_is_word (x ∷ xs) (suc k) c h e = cell_is_word xs k c h.1 e

pub well_formed : (m : Memory) → AllByRecursion HoldsWords m.pages → (w : ℕ) (c : Cell) (q : Pointer) → cell_at m w ≡ Some c → c.word ≡ Ptr q → IsWellFormed q
well_formed m words w c q at is = elim (word_or_none w) [
  | inr no_word ↦ let none = cell_at-unaligned m w no_word in cc
  | inl aligned ↦ go (page_at m (page_of w)) refl (sym (cell_at-aligned m w aligned) ∙ at)
]
  where
    go : (o : Option (List Cell)) → page_at m (page_of w) ≡ o → cell_in o (place_of w) ≡ Some c → IsWellFormed q
    go None e f = cc
    go (Some cells) e f =
        let page = All-contains HoldsWords m.pages (page_of w, cells) (All-from_recursion HoldsWords m.pages words) (found_page m.pages (page_of w) cells e) in
        subst IsWord is (cell_is_word cells (place_of w) c page f)
