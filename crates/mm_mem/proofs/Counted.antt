-- How many accesses a call adds.
use Rattle.std.proofs.Common.{◌≡◌, ℕ, ◌+◌, Bool, true, false, List, [], ◌∷◌, ◌++◌, Option, Some, None, refl, arith}
use Rattle.mm_word.specs.{declared.word.{Cell.Cell, Pre.Pre}, Access.AccessValue}
use Rattle.mm_model.specs.{Uses.{Use, use_at, accesses, accesses-append}, Turn.removal_use}

pub one : (t : AccessValue) (pre : Pre) (o : Option Cell) → accesses (use_at t.kind t.addr pre o ∷ []) ≡ 1
one t pre None = refl
one t pre (Some c) = refl

pub none : (page : ℕ) (mapped : Bool) → accesses (removal_use page mapped) ≡ 0
none page true = refl
none page false = refl

pub one_access : (before : List Use) (t : AccessValue) (pre : Pre) (o : Option Cell) → accesses (before ++ (use_at t.kind t.addr pre o ∷ [])) ≡ accesses before + 1
one_access before t pre o = omega (arith, accesses-append before (use_at t.kind t.addr pre o ∷ []), one t pre o)

pub no_access : (before : List Use) (page : ℕ) (mapped : Bool) → accesses (before ++ removal_use page mapped) ≡ accesses before
no_access before page mapped = omega (arith, accesses-append before (removal_use page mapped), none page mapped)
