-- Lists of numbers by their test.
use Rattle.std.proofs.Common.{◌≡◌, ℕ, true, nat_eq, List, eqb-true, eq-eqb}
use lib.Pointwise.{pointwise, pointwise_decides}

alike : (a b : ℕ) → (nat_eq a b ≡ true → a ≡ b) × (a ≡ b → nat_eq a b ≡ true)
alike a b = (eqb-true a b, eq-eqb a b)

pub list_is : (xs ys : List ℕ) → pointwise nat_eq xs ys ≡ true → xs ≡ ys
list_is xs ys e = (pointwise_decides alike xs ys).0 e

pub same_list : (xs ys : List ℕ) → xs ≡ ys → pointwise nat_eq xs ys ≡ true
same_list xs ys e = (pointwise_decides alike xs ys).1 e
