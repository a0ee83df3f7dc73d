-- A table of rows without a word, with one row more.
use Rattle.std.proofs.Common.{◌≡◌, ℕ, ◌+◌, ◌<◌, inl, inr, List, [], ◌∷◌, ◌++◌, length, sym, ap, ◌∙◌, subst}
use Rattle.std.proofs.lemmas.List.{get_or_append_left, get_or_push, length_push}
use Rattle.mm_seg.proofs.Searches.{same_or_below}
use Rattle.mm_audit.specs.{declared.shared_words.Meets.Meets, Meeting.{AreNoRows, no_meets, no_row, row_at}}

pub empty_more : (top : ℕ) (table next : List Meets) (row : Meets) → AreNoRows top table → row ≡ no_meets
    → next ≡ table ++ row ∷ [] → AreNoRows (top + 1) next
empty_more top table next row h empty pushed = record {
  len = ap length pushed ∙ length_push table row ∙ ap (λ n. n + 1) h.len;
  rows = λ g lt. ap (λ v. row_at v g) pushed ∙ elim (same_or_below g top lt) [
    | inl less ↦ get_or_append_left table (row ∷ []) no_row g (subst (λ n. g < n) (sym h.len) less) ∙ h.rows g less
    | inr e ↦ get_or_push table row no_row g (h.len ∙ sym e) ∙ empty
  ];
}
