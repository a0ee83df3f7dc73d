-- A memory is as it is with its own cell written at a word.
use Rattle.std.proofs.Common.{◌≡◌, inl, inr, ℕ, List, slice_set, slice_index_or, Option, Some, None, IsTrue, T, sym, ap, ◌∙◌, subst, refl}
use Rattle.std.specs.{Ordering.nat_cmp, FinMap.{find, put, is_sorted, nat_cmp-IsAntisymmetric}, FinMap.Entries.{same_entries, is_sorted-put}}
use Rattle.std.proofs.lemmas.{Cmp.nat_cmp_total, Bool.cases_eq, List.set-get_or}
use Rattle.mm_word.specs.declared.word.Cell.{Cell}
use Rattle.mm_model.specs.Memory.{Memory, page_at, page_of, place_of, put_cell, put_in, zero_cell}
use Rattle.mm_model.proofs.Memories.{put_cell-unmapped, find_put_same, find_put_other}
use Rattle.mm_config.specs.Noting.{IsWrittenAt}

pub own_cell : (m : Memory) (word : ℕ) → IsTrue (is_sorted nat_cmp m.pages) → IsWrittenAt word m m
unfolding put_cell
own_cell m word rising = by (page_at m (page_of word)) refl
  where
    by : (o : Option (List Cell)) → page_at m (page_of word) ≡ o → IsWrittenAt word m m
    by None e = (zero_cell, sym (put_cell-unmapped m word zero_cell e))
    by (Some cells) e =
        let c = slice_index_or cells (place_of word) zero_cell in
        let up = subst T (sym rising) tt in
        let page = page_of word in
        let all = slice_set cells (place_of word) c in
        let same : m.pages ≡ put nat_cmp page all m.pages =
        same_entries nat_cmp nat_cmp_total nat_cmp-IsAntisymmetric m.pages (put nat_cmp page all m.pages) up (is_sorted-put nat_cmp nat_cmp_total page all m.pages up) (λ q. elim (cases_eq q page) [
          | inl here ↦
              ap (λ n. find nat_cmp n m.pages) here ∙ e ∙ ap Some (sym (set-get_or cells (place_of word) zero_cell))
              ∙ sym (find_put_same m.pages page all) ∙ ap (λ n. find nat_cmp n (put nat_cmp page all m.pages)) (sym here)
          | inr other ↦ sym (find_put_other m.pages page all q other)
        ]) in
        (c, ap (λ pages. let x : Memory = record m { pages = pages } in x) same ∙ sym (ap (λ o. put_in m o word c) e))
