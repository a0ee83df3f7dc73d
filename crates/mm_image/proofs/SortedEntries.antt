-- A search in entries whose numbers rise.
use Rattle.std.proofs.Common.{◌≡◌, ◌≢◌, ℕ, zero, suc, ◌<◌, Bool, true, false, List, [], ◌∷◌, length, get_or, Some, None}
use Rattle.std.proofs.{Common.{refl, sym, arith}, lemmas.Bool.Decides.nat_tests}
use Rattle.std.specs.{Prelude.{IsTrue, ◌&&◌}, Ordering.{nat_cmp, eq_by_cmp, is_lt}}
use Rattle.std.specs.FinMap.{find, is_sorted, Entries.below_all}

left : (a b : Bool) → IsTrue (a && b) → IsTrue a
left true b h = refl
left false b h = absurd cc

right : (a b : Bool) → IsTrue (a && b) → IsTrue b
right true b h = h
right false b h = absurd cc

less : (x y : ℕ) → IsTrue (is_lt (nat_cmp x y)) → x < y
less x y h = grind (arith, nat_tests)

same : (x : ℕ) → eq_by_cmp nat_cmp x x ≡ true
same x = grind (arith, nat_tests)

other : (x y : ℕ) → x ≢ y → eq_by_cmp nat_cmp x y ≡ false
other x y h = grind (arith, nat_tests)

module _ {X : Type 0} where
  -- the first number is below each later one
  below : (n : ℕ) (es : List (ℕ × X)) (i : ℕ) (e : ℕ × X) → IsTrue (below_all nat_cmp n es) → i < length es → n < (get_or es i e).0
  below n [] i e h l = absurd (omega arith)
  below n (x ∷ es) zero e h l = less n x.0 (left _ _ h)
  below n (x ∷ es) (suc i) e h l = below n es i e (right (is_lt (nat_cmp n x.0)) _ h) (omega arith)

  -- the numbers rise
  pub rises : (es : List (ℕ × X)) (i j : ℕ) (e : ℕ × X) → IsTrue (is_sorted nat_cmp es) → i < j → j < length es → (get_or es i e).0 < (get_or es j e).0
  rises [] i j e h l k = absurd (omega arith)
  rises (x ∷ es) i zero e h l k = absurd (omega arith)
  rises (x ∷ es) zero (suc j) e h l k = below x.0 es j e (left _ _ h) (omega arith)
  rises (x ∷ es) (suc i) (suc j) e h l k = rises es i j e (right (below_all nat_cmp x.0 es) _ h) (omega arith) (omega arith)

  -- the entry at a place is the one that is found
  pub find-at : (es : List (ℕ × X)) (i q : ℕ) (e : ℕ × X) → IsTrue (is_sorted nat_cmp es) → i < length es → (get_or es i e).0 ≡ q → find nat_cmp q es ≡ Some (get_or es i e).1
  find-at [] i q e h l k = absurd (omega arith)
  find-at (x ∷ es) zero q e h l k = rw (← k, same x.0) refl
  find-at (x ∷ es) (suc i) q e h l k =
      let lt : x.0 < (get_or es i e).0 = below x.0 es i e (left _ _ h) (omega arith) in
      let ne : q ≢ x.0 = λ s. absurd (omega arith) in
      rw (other q x.0 ne) (find-at es i q e (right (below_all nat_cmp x.0 es) _ h) (omega arith) k)

  -- where no entry has the number, none is found
  pub find-none : (es : List (ℕ × X)) (q : ℕ) → ((i : ℕ) (e : ℕ × X) → i < length es → (get_or es i e).0 ≢ q) → find nat_cmp q es ≡ None
  find-none [] q h = refl
  find-none (x ∷ es) q h =
      let ne : q ≢ x.0 = λ s. h 0 x (omega arith) (sym s) in
      rw (other q x.0 ne) (find-none es q (λ i e l. h (suc i) e (omega arith)))
