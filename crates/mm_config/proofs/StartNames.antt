-- Names at the start.
use Rattle.std.proofs.Common.{◌⊎◌, inl, inr, ℕ, ◌<◌, ◌≤◌, ◌^◌, List, [], length, slice_get, slice_index_or, refl, sym, subst, arith}
use Rattle.std.proofs.lemmas.{Bool.{cases_lt}, Option.{slice_get-get_or, slice_get_past}}
use Rattle.mm_config.specs.Naming.{AreLeaves, IsOrNone}
use Rattle.mm_config.proofs.PageTrees.{none_tree, none_at}

-- nothing has the leaves of the name 0
pub no_leaves : {A : Type 0} (Is : A → ℕ → Type 0) (pairs : List (ℕ × ℕ)) (depth : ℕ) → AreLeaves Is [] pairs depth 0
no_leaves Is pairs depth = record { inner = none_tree pairs depth; wide = omega arith; each = λ at. none_at pairs depth at }

-- nor have things each of which has the name 0
pub zero_leaves : {A : Type 0} (Is : A → ℕ → Type 0) (xs : List A) (d : A) (pairs : List (ℕ × ℕ)) (depth : ℕ) → length xs ≤ 2 ^ depth
    → ((at : ℕ) → at < length xs → Is (slice_index_or xs at d) 0) → AreLeaves Is xs pairs depth 0
zero_leaves Is xs d pairs depth wide each = record {
  inner = none_tree pairs depth;
  wide = wide;
  each = λ at. subst (IsOrNone Is (slice_get xs at)) (sym (none_at pairs depth at)) (by at (cases_lt at (length xs)));
}
  where
    by : (at : ℕ) → (at < length xs) ⊎ (length xs ≤ at) → IsOrNone Is (slice_get xs at) 0
    by at (inl lt) = subst (λ o. IsOrNone Is o 0) (sym (slice_get-get_or xs at d lt)) (each at lt)
    by at (inr high) = subst (λ o. IsOrNone Is o 0) (sym (slice_get_past xs at high)) refl
