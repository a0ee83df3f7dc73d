use Rattle.std.proofs.Common.{◌≡◌, true, arith}
use Rattle.mm_word.specs.{declared.perm.Perm.Perm, Perm.{can_become, can_load, can_store, can_fetch}}

-- what two restrictions give, one may give
pub can_become-trans : (p q r : Perm) → can_become p q ≡ true → can_become q r ≡ true → can_become p r ≡ true
can_become-trans p q r e f = grind arith

-- a permission that is fetched from also loads
pub can_fetch-loads : (p : Perm) → can_fetch p ≡ true → can_load p ≡ true
can_fetch-loads p e = grind arith

-- a permission that stores also loads
pub can_store-loads : (p : Perm) → can_store p ≡ true → can_load p ≡ true
can_store-loads p e = grind arith
