-- Tests and what follows from them.
use Rattle.std.proofs.Common.{◌≡◌, Bool, true, false, if◌then◌else◌, Some, None, refl}
-- names by which crates above know them
pub use Rattle.std.proofs.lemmas.Bool.{and_parts as both, eqb-true as same_number}

-- the two ways of a test
pub either : {A : Type 0} (P : A → Type 0) (b : Bool) (x y : A) → (b ≡ true → P x) → (b ≡ false → P y) → P (if b then x else y)
either P true x y f g = f refl
either P false x y f g = g refl

pub some_same : {A : Type 0} (b : Bool) (x y : A) → (if b then Some x else None) ≡ Some y → (b ≡ true) × (x ≡ y)
some_same true x y e = (refl, cc)
some_same false x y e = cc
