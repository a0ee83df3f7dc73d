-- Tests that do not hold.
use Rattle.std.{proofs.{Common.{◌≡◌, ℕ, ◌<◌, false, arith}, lemmas.Bool.Decides.nat_tests}, specs.Prelude.nat_le}
-- names by which crates above know them
pub use Rattle.std.proofs.lemmas.Bool.{or_parts as neither, not-false as not_not, ltb-false as is_above, eqb-false as is_not}

pub is_below : (n m : ℕ) → nat_le m n ≡ false → n < m
is_below n m e = grind (arith, nat_tests)
