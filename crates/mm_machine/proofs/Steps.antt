-- Small steps: tests of numbers, and lists of them.
use Rattle.std.proofs.Common.{◌≡◌, ℕ, ◌+◌, ◌≤◌, Bool, true, false, cond, List, [], ◌∷◌, refl, arith}
use Rattle.std.specs.List.{AllByRecursion}

pub add_one : (b : Bool) (n : ℕ) → cond b (n + 1) n ≡ cond b (1 + n) n
add_one true n = let e : n + 1 ≡ 1 + n = omega arith in e
add_one false n = refl

pub from_zero : (ns : List ℕ) → AllByRecursion (λ y. 0 ≤ y) ns
from_zero [] = tt
from_zero (n ∷ ns) = (omega arith, from_zero ns)
