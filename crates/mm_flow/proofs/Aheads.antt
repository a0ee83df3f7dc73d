-- A later node for each.
use Rattle.std.proofs.Common.{◌≡◌, ℕ, ◌+◌, ◌<◌, List, [], ◌∷◌, ◌++◌, length, slice_index, sym, ap, ◌∙◌, arith}
use Rattle.mm_flow.{specs.Work.IsAhead, proofs.SharedMarks.{push_cases, push_length, Pushed.{last, before}}}

pub nexts_more : (next : List ℕ) (k : ℕ) → length next ≡ k → ((i : ℕ) → i < k → slice_index next i ≡ i + 1)
    → (length (next ++ (k + 1) ∷ []) ≡ k + 1) × ((i : ℕ) → i < k + 1 → slice_index (next ++ (k + 1) ∷ []) i ≡ i + 1)
nexts_more next k len h = (
  push_length next (k + 1) k len,
  λ i lt. elim (push_cases next (k + 1) i (omega arith)) [
    | last e f ↦ f ∙ ap (λ v. v + 1) (sym (e ∙ len))
    | before small f ↦ f ∙ h i (omega arith)
  ],
)

pub nexts_ahead : (next : List ℕ) (k n : ℕ) → k ≡ n → length next ≡ k → ((i : ℕ) → i < k → slice_index next i ≡ i + 1) → IsAhead next n
nexts_ahead next k n same len h = record {
  len = len ∙ same;
  later = λ i lt. let e = h i (omega arith) in omega arith;
  ends = λ i lt. let e = h i (omega arith) in omega arith;
}
