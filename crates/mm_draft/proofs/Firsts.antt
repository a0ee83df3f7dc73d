-- The first fault of two lists of faults.
use Rattle.std.proofs.Common.{◌≡◌, ℕ, Bool, true, false, if◌then◌else◌, ◌&&◌, ◌||◌, List, [], ◌∷◌, ◌++◌, Option, Some}
use Rattle.std.proofs.{Common.{None, refl, ap, ◌∙◌, arith}, lemmas.Bool.Decides.nat_tests}
use Rattle.std.specs.Prelude.{nat_lt, ◌==◌}
use Rattle.mm_line.specs.{declared.fault.Problem.Problem, Faults.number_of}
use Rattle.mm_draft.specs.{Faults.{is_before, lesser, first_of}, Seen.first_of_both}

-- the order, on places and numbers alone
goes_before : ℕ → ℕ → ℕ → ℕ → Bool
goes_before a m b n = nat_lt b a || a == b && nat_lt m n

transitive : (a m b n c o : ℕ) → goes_before a m b n ≡ true → goes_before b n c o ≡ true → goes_before a m c o ≡ true
unfolding goes_before
transitive a m b n c o h k = grind (arith, nat_tests)

-- what is before neither stays behind
behind : (a m b n c o : ℕ) → goes_before b n a m ≡ false → goes_before c o b n ≡ false → goes_before c o a m ≡ false
unfolding goes_before
behind a m b n c o h k = grind (arith, nat_tests)

merged : (x p q : Problem) → lesser x (lesser p (Some q)) ≡ first_of_both (lesser x (Some p)) (Some q)
unfolding goes_before
merged x p q = by (is_before q p) (is_before p x) (is_before q x) refl refl refl
  where
    by : (qp px qx : Bool) → is_before q p ≡ qp → is_before p x ≡ px → is_before q x ≡ qx
        → lesser x (if qp then Some q else Some p) ≡ first_of_both (if px then Some p else Some x) (Some q)
    by true true true a b c = rw (a, c) refl
    by true true false a b c = let t = transitive q.left (number_of q.fault) p.left (number_of p.fault) x.left (number_of x.fault) a b in cc
    by true false qx a b c = refl
    by false true qx a b c = rw (a, b) refl
    by false false true a b c = let t = behind x.left (number_of x.fault) p.left (number_of p.fault) q.left (number_of q.fault) b a in cc
    by false false false a b c = rw (b, c) refl

joined : (x : Problem) (o r : Option Problem) → lesser x (first_of_both o r) ≡ first_of_both (lesser x o) r
joined x None r = refl
joined x (Some p) None = by (is_before p x)
  where
    by : (b : Bool) → (if b then Some p else Some x) ≡ first_of_both (if b then Some p else Some x) None
    by true = refl
    by false = refl
joined x (Some p) (Some q) = merged x p q

pub first_of_append : (xs ys : List Problem) → first_of (xs ++ ys) ≡ first_of_both (first_of xs) (first_of ys)
first_of_append [] ys = refl
first_of_append (x ∷ xs) ys = ap (lesser x) (first_of_append xs ys) ∙ joined x (first_of xs) (first_of ys)

-- where none is first, there is none
pub no_fault : (xs : List Problem) → first_of xs ≡ None → xs ≡ []
no_fault [] e = refl
no_fault (x ∷ xs) e = by (first_of xs) e
  where
    by : (o : Option Problem) → lesser x o ≡ None → x ∷ xs ≡ []
    by None n = cc
    by (Some p) n = of (is_before p x) n
      where
        of : (b : Bool) → (if b then Some p else Some x) ≡ None → x ∷ xs ≡ []
        of true m = cc
        of false m = cc
