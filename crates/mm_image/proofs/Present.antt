-- The numbers of slots, in a table.
use Rattle.std.proofs.Common.{◌≡◌, ℕ, ◌+◌, ◌<◌, Bool, true, false, List, [], length, get_or, take, replicate, sym, ap}
use Rattle.std.proofs.Common.{◌∙◌, arith, inl, inr, eq-eqb}
use Rattle.std.proofs.lemmas.Bool.{cases_eq, ne_eqb}
use Rattle.std.proofs.lemmas.List.{get_or-replicate, get_or-set_same, get_or-set_other, Folds.list_any_more}
use Rattle.std.{proofs.Math.Bool.{or-true, or-false}, specs.Prelude.{◌||◌, ◌==◌, slice_index_or, slice_set}}
use Rattle.mm_model.specs.{Slot.Slot, Spelling.has_number}
use Rattle.mm_image.specs.Reading.{HoldsNumbers}

pub none_yet : HoldsNumbers (replicate 256 false) []
none_yet n below = get_or-replicate 256 n false false below

-- one slot more
pub one_number_more : (present : List Bool) (slots : List Slot) (i m : ℕ) (s : Slot) → length present ≡ 256 → i < length slots → get_or slots i s ≡ s → s.number ≡ m
    → HoldsNumbers present (take i slots) → HoldsNumbers (slice_set present m true) (take (i + 1) slots)
one_number_more present slots i m s long lt is number holds n below =
    let more : has_number (take (i + 1) slots) n ≡ (has_number (take i slots) n || (m == n)) = list_any_more
    (λ (x : Slot). x.number == n) slots i s lt ∙ ap (λ (x : Slot). has_number (take i slots) n || (x.number == n))
    is ∙ ap (λ k. has_number (take i slots) n || (k == n)) number in
    elim (cases_eq m n) [
      | inl same ↦
          let at : slice_index_or (slice_set present m true) n false ≡ true = ap
          (λ k. slice_index_or (slice_set present m true) k false) (sym same) ∙ get_or-set_same present m true false
          (omega (arith, long, same, below)) in
          at ∙ sym (more ∙ ap (λ t. has_number (take i slots) n || t) (eq-eqb m n same) ∙ or-true (has_number (take i slots) n))
      | inr other ↦
          get_or-set_other present m n true false (λ e. other (sym e)) ∙ holds n below
          ∙ sym (more ∙ ap (λ t. has_number (take i slots) n || t) (ne_eqb m n other)
          ∙ or-false (has_number (take i slots) n))
    ]
