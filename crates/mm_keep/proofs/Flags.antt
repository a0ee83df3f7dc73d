-- Flags that a loop sets, number by number, and a test of some of a list's elements.
use Rattle.std.proofs.Common.{◌≡◌, inl, inr, ℕ, zero, suc, ◌+◌, ◌<◌, Bool, false, List, [], ◌∷◌, length, set}
use Rattle.std.proofs.Common.{get_or, refl, ap, ◌∙◌, subst, sym, arith, true, cond, ◌&&◌, ◌||◌}
use Rattle.std.specs.List.{filter, list_any}
use Rattle.mm_seg.proofs.Searches.{same_or_below}
use Rattle.mm_keep.specs.Kernels.{AreFlags}

get_same : (xs : List Bool) (n : ℕ) (b : Bool) → n < length xs → get_or (set xs n b) n false ≡ b
get_same [] n b lt = absurd (omega arith)
get_same (x ∷ xs) zero b lt = refl
get_same (x ∷ xs) (suc n) b lt = get_same xs n b (omega arith)

get_other : (xs : List Bool) (n m : ℕ) (b : Bool) → m < n → get_or (set xs n b) m false ≡ get_or xs m false
get_other [] n m b lt = refl
get_other (x ∷ xs) zero m b lt = absurd (omega arith)
get_other (x ∷ xs) (suc n) zero b lt = refl
get_other (x ∷ xs) (suc n) (suc m) b lt = get_other xs n m b (omega arith)

pub flags_more : (test : ℕ → Bool) (n : ℕ) (flags : List Bool) (b : Bool) → n < length flags → b ≡ test n
    → AreFlags test n flags → AreFlags test (n + 1) (set flags n b)
flags_more test n flags b room is before = record {
  each = λ m lt. elim (same_or_below m n lt) [
    | inl less ↦ get_other flags n m b less ∙ before.each m less
    | inr same ↦ subst (λ k. get_or (set flags n b) k false ≡ test k) (sym same) (get_same flags n b room ∙ is)
  ];
}

module _ {X : Type 0} (p q : X → Bool) where
  one_filtered : (b : Bool) (x : X) (ys : List X) → list_any q (cond b (x ∷ ys) ys) ≡ ((b && q x) || list_any q ys)
  one_filtered true x ys = refl
  one_filtered false x ys = refl

  -- some element passes both tests if one that passes the first passes the second
  pub any_filtered : (xs : List X) → list_any (λ x. p x && q x) xs ≡ list_any q (filter p xs)
  any_filtered [] = refl
  any_filtered (x ∷ xs) = ap (λ r. (p x && q x) || r) (any_filtered xs) ∙ sym (one_filtered (p x) x (filter p xs))
