-- Lists that rise by an order, and one more entry in its place.
use Rattle.std.proofs.Common.{◌≡◌, ℕ, zero, suc, ◌+◌, ◌<◌, Bool, true, false, ◌||◌, List, [], ◌∷◌, length, get_or, refl}
use Rattle.std.proofs.{Common.{ap, ◌∙◌, arith}, lemmas.{List.Sorted.searchable_from_sorted, Map.Keys.Less-from_sorted}}
use Rattle.std.specs.List.{insert, list_any, AllByRecursion}
use Rattle.std.specs.List.Sorted.{IsStrictlySortedBy, IsNonDecreasingBy, IsPartitionPoint}
use Rattle.std.specs.{Cmp.IsTotalOrder, Ordering.{ordering_index, ordering_reverse, is_lt, is_eq}}
use Rattle.std.specs.declared.cmp.Ordering.{Ordering, TheVariants.{Less, Equal, Greater}}
use Rattle.mm_debug.specs.Breakpoints.{placed, before}

module _ {A : Type 0} {cmp : A → A → Ordering} (total : IsTotalOrder cmp) where
  above : (x y : A) → cmp y x ≡ Less → cmp x y ≡ Greater
  above x y h = total.antisymm x y ∙ ap ordering_reverse h

  below : (x y : A) → cmp y x ≡ Greater → cmp x y ≡ Less
  below x y h = total.antisymm x y ∙ ap ordering_reverse h

  -- what stands after a greater entry
  all_after : (x y : A) (ys : List A) → cmp x y ≡ Less → AllByRecursion (λ z. cmp y z ≡ Less) ys → AllByRecursion (λ z. cmp x z ≡ Less) ys
  all_after x y [] less all = tt
  all_after x y (z ∷ zs) less all = (total.trans x y z less all.0, all_after x y zs less all.1)

  all_placed : (P : A → Type 0) (x : A) (ys : List A) → P x → AllByRecursion P ys → AllByRecursion P (placed cmp x ys)
  unfolding placed
  all_placed P x [] here all = (here, tt)
  all_placed P x (y ∷ ys) here all = elim (cmp x y) as (λ o. AllByRecursion P (before cmp o x y ys (placed cmp x ys))) [
    | Less ↦ (here, all)
    | Equal ↦ all
    | Greater ↦ (all.0, all_placed P x ys here all.1)
  ]

  -- a list that rises still does with one entry more
  pub rise_placed : (x : A) (ys : List A) → IsStrictlySortedBy cmp ys → IsStrictlySortedBy cmp (placed cmp x ys)
  unfolding placed IsStrictlySortedBy
  rise_placed x [] rise = (tt, tt)
  rise_placed x (y ∷ ys) rise = elim (cmp x y) as (λ o. cmp x y ≡ o → IsStrictlySortedBy cmp (before cmp o x y ys (placed cmp x ys))) [
    | Less ↦ λ e. ((e, all_after x y ys e rise.0), rise)
    | Equal ↦ λ e. rise
    | Greater ↦ λ e. (all_placed (λ z. cmp y z ≡ Less) x ys (below y x e) rise.0, rise_placed x ys rise.1)
  ] refl

  -- an entry is placed between what is less and what is greater
  pub placed_new : (x : A) (ys : List A) (i : ℕ) → IsPartitionPoint (λ y. cmp y x ≡ Less) (λ y. cmp y x ≡ Greater) ys i → placed cmp x ys ≡ insert ys i x
  unfolding placed
  placed_new x [] zero parts = refl
  placed_new x [] (suc i) parts = refl
  placed_new x (y ∷ ys) zero parts = ap (λ o. before cmp o x y ys (placed cmp x ys)) (below x y (parts.1 0 y (omega arith) (omega arith)))
  placed_new x (y ∷ ys) (suc i) parts =
      ap (λ o. before cmp o x y ys (placed cmp x ys)) (above x y (parts.0 0 y (omega arith) (omega arith)))
      ∙ ap (λ zs. y ∷ zs) (placed_new x ys i (λ k d low lt. parts.0 (suc k) d (omega arith) (omega arith), λ k d low lt. parts.1 (suc k) d (omega arith) (omega arith)))

  -- a binary search finds its way in a list that rises
  pub searchable : (x : A) (ys : List A) → IsStrictlySortedBy cmp ys → IsNonDecreasingBy (λ y. ordering_index (cmp y x)) ys
  searchable x ys rise = searchable_from_sorted total (λ (y : A). y) ys x
      (λ k d low lt. ap is_lt (above (get_or ys (k + 1) d) (get_or ys k d) (Less-from_sorted cmp ys k (k + 1) d rise (omega arith) (omega arith))))

  -- a test that only the entry passes, where it is there
  pub any_there : (test : A → Bool) (x : A) → ((y : A) → test y ≡ is_eq (cmp y x)) → (ys : List A) (i : ℕ) → i < length ys → ((d : A) → cmp (get_or ys i d) x ≡ Equal)
      → list_any test ys ≡ true
  any_there test x tests [] i inside at = absurd (omega arith)
  any_there test x tests (y ∷ ys) zero inside at = ap (λ b. b || list_any test ys) (tests y ∙ ap is_eq (at y))
  any_there test x tests (y ∷ ys) (suc i) inside at = or_true (test y) (list_any test ys) (any_there test x tests ys i (omega arith) at)
    where
      or_true : (a b : Bool) → b ≡ true → a || b ≡ true
      or_true true b h = refl
      or_true false b h = h

  -- and where it is not
  pub any_new : (test : A → Bool) (x : A) → ((y : A) → test y ≡ is_eq (cmp y x)) → (ys : List A) (i : ℕ)
      → IsPartitionPoint (λ y. cmp y x ≡ Less) (λ y. cmp y x ≡ Greater) ys i → list_any test ys ≡ false
  any_new test x tests [] i parts = refl
  any_new test x tests (y ∷ ys) zero parts =
      ap (λ b. b || list_any test ys) (tests y ∙ ap is_eq (parts.1 0 y (omega arith) (omega arith)))
      ∙ any_new test x tests ys zero (λ k d low lt. absurd (omega arith), λ k d low lt. parts.1 (suc k) d (omega arith) (omega arith))
  any_new test x tests (y ∷ ys) (suc i) parts =
      ap (λ b. b || list_any test ys) (tests y ∙ ap is_eq (parts.0 0 y (omega arith) (omega arith)))
      ∙ any_new test x tests ys i (λ k d low lt. parts.0 (suc k) d (omega arith) (omega arith), λ k d low lt. parts.1 (suc k) d (omega arith) (omega arith))
