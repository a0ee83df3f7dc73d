use Rattle.std.proofs.Common.{◌≡◌, ℕ, ◌+◌, ◌<◌, ◌⊎◌, List, [], ◌∷◌, ◌++◌, slice_index, arith, inl, inr, sym, ◌∙◌, ap}
use Rattle.std.proofs.Common.{subst}
use Rattle.mm_seg.proofs.Searches.{same_or_below}
use Rattle.mm_flow.specs.Work.{IsIn}
use Rattle.mm_flow.proofs.Masks.{in_push_left, in_push_last, in_push_cases}
use Rattle.mm_flow.proofs.flow.marked_nodes.Goals.{then-marks-k-ne0+in_ok-push_back, else-marks-k-ne0}
use Rattle.mm_flow.proofs.flow.marked_nodes.Goals as goal

module _ (marks xs : List ℕ) (k : ℕ) (below : (n : ℕ) → IsIn n xs → n < k) (all : (n : ℕ) → n < k → IsIn n xs ⊎ (slice_index marks n ≡ 0)) where
  listed : ((n : ℕ) → IsIn n (xs ++ k ∷ []) → n < k + 1) × ((n : ℕ) → n < k + 1 → IsIn n (xs ++ k ∷ []) ⊎ (slice_index marks n ≡ 0))
  listed = (
    λ n m. elim (in_push_cases n xs k m) [ inl a ↦ (let lt = below n a in omega arith) | inr e ↦ omega arith ],
    λ n lt. elim (same_or_below n k lt) [
      | inr e ↦ inl (subst (λ v. IsIn v (xs ++ k ∷ [])) (sym e) (in_push_last xs k))
      | inl less ↦ elim (all n less) [ inl a ↦ inl (in_push_left n xs k a) | inr none ↦ inr none ]
    ],
  )

  left_out : slice_index marks k ≡ 0 → ((n : ℕ) → IsIn n xs → n < k + 1) × ((n : ℕ) → n < k + 1 → IsIn n xs ⊎ (slice_index marks n ≡ 0))
  left_out none = (
    λ n m. let lt = below n m in omega arith,
    λ n lt. elim (same_or_below n k lt) [ inl less ↦ all n less | inr e ↦ inr (ap (slice_index marks) e ∙ none) ],
  )

pub loop-k-preserved : goal.loop-k-preserved
loop-k-preserved c =
    elim c.if-marks-k-ne0.branch [
      | then-marks-k-ne0+in_ok-push_back w ↦ rw (w.all-is, w.in_ok-push_back.ensures.items) (listed c.args.marks.now c.loop-k.all.items c.loop-k.k c.loop-k.invariant.0 c.loop-k.invariant.1)
      | else-marks-k-ne0 w ↦ rw w.all-is (left_out c.args.marks.now c.loop-k.all.items c.loop-k.k c.loop-k.invariant.0 c.loop-k.invariant.1 w.if-marks-k-ne0.false)
    ]

pub returns-clause-below : goal.returns-clause-below
returns-clause-below c k m = let lt = c.loop-k.invariant.0 k m in omega arith
