-- The number of a flag, 1 or 0.
use Rattle.std.proofs.Common.{◌≡◌, ◌≤◌, ◌<◌, ◌==◌, Bool, true, false, refl, arith}
use Rattle.mm_model.specs.Flags.{one_if}

pub at_most_one : (b : Bool) → one_if b ≤ 1
at_most_one true = omega arith
at_most_one false = omega arith

pub below_two : (b : Bool) → one_if b < 2
below_two true = omega arith
below_two false = omega arith

pub one_back : (b : Bool) → (one_if b == 1) ≡ b
one_back true = refl
one_back false = refl
