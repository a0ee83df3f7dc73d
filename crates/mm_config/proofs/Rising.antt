-- Outputs whose names rise.
use Rattle.std.proofs.Common.{◌≡◌, ℕ, zero, suc, ◌+◌, ◌≤◌, Bool, true, false, if◌then◌else◌, List, [], ◌∷◌, ◌++◌, length, slice_get, Some, sym, ap, subst, arith}
use Rattle.std.specs.List.{AllByRecursion, list_any}
use Rattle.indexmap.specs.IndexSet.{insert_key}
use Rattle.mm_pairs.proofs.Inserts.{same_pair}
use Rattle.mm_config.specs.Chains.{Rise}

rise_push : (at : ℕ) (ks : List (ℕ × ℕ)) (k : ℕ × ℕ) → Rise at ks → k.0 ≤ at + length ks → 1 ≤ k.1 → Rise at (ks ++ k ∷ [])
rise_push at [] k h low some = (omega (arith, low), some, tt)
rise_push at (p ∷ ks) k h low some = (h.0, h.1, rise_push (at + 1) ks k h.2 (omega (arith, low)) some)

-- they still rise with one more
pub rise_more : (ks now : List (ℕ × ℕ)) (k : ℕ × ℕ) → now ≡ insert_key same_pair ks k → Rise 0 ks → k.0 ≤ length ks → 1 ≤ k.1 → Rise 0 now
rise_more ks now k is h low some = subst (Rise 0) (sym is) (by (list_any (same_pair k) ks))
  where
    by : (b : Bool) → Rise 0 (if b then ks else ks ++ k ∷ [])
    by true = h
    by false = rise_push 0 ks k h (omega (arith, low)) some

-- the pair at an index
rise_from : (at : ℕ) (ks : List (ℕ × ℕ)) (n : ℕ) (k : ℕ × ℕ) → Rise at ks → slice_get ks n ≡ Some k → k.0 ≤ at + n
rise_from at [] n k h e = cc
rise_from at (p ∷ ks) zero k h e = let same : p ≡ k = cc in let low = h.0 in let first = ap (λ (x : ℕ × ℕ). x.0) same in omega (arith, low, first)
rise_from at (p ∷ ks) (suc n) k h e = let low = rise_from (at + 1) ks n k h.2 e in omega (arith, low)

pub rise_at : (ks : List (ℕ × ℕ)) (n : ℕ) (k : ℕ × ℕ) → Rise 0 ks → slice_get ks n ≡ Some k → k.0 ≤ n
rise_at ks n k h e = let low = rise_from 0 ks n k h e in omega (arith, low)

-- none is that of no bytes
pub some_pairs : (at : ℕ) (ks : List (ℕ × ℕ)) → Rise at ks → AllByRecursion (λ p. p ≡ (0, 0) → ⊥) ks
some_pairs at [] h = tt
some_pairs at (p ∷ ks) h = ((λ e. let some = h.1 in let none = ap (λ (x : ℕ × ℕ). x.1) e in omega (arith, some, none)), some_pairs (at + 1) ks h.2)
