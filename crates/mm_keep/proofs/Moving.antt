-- What code may do with its instruction pointer.
use Rattle.std.proofs.Common.{◌≡◌, ℕ, ◌+◌, ◌*◌, ◌%◌, ◌^◌, ◌<◌, ℤ, pos, true, bit_or, refl, arith}
use Rattle.std.{proofs.lemmas.Nat.or_shifted, specs.Prelude.◌+ℤ◌}
use Rattle.mm_word.specs.declared.perm.{Perm.{Perm, TheVariants.{Ro, Rw, Xu, Xp, Eu, Ep, Key}}, Kind.TheVariants.Fetch}
use Rattle.mm_word.specs.{Perm.{can_move, allows}, Pointer.{Pointer, lea_result, moved_to}}

code_moves : (p : Perm) → allows p Fetch ≡ true → can_move p ≡ true
code_moves Ro e = cc
code_moves Rw e = cc
code_moves Xu e = refl
code_moves Xp e = refl
code_moves Eu e = cc
code_moves Ep e = cc
code_moves Key e = cc

pub lea_code : (p : Pointer) (by : ℤ) → allows p.perm Fetch ≡ true → lea_result p by ≡ moved_to p (pos p.addr +ℤ by)
lea_code p by code = rw (code_moves p.perm code) refl

-- 32 bits above and 32 bits below
pub or_halves : (high low : ℕ) → low < 2 ^ 32 → bit_or (high * 2 ^ 32 % 2 ^ 64) low ≡ high * 2 ^ 32 % 2 ^ 64 + low
or_halves high low below =
    let moved : high * 2 ^ 32 % 2 ^ 64 ≡ high % 2 ^ 32 * 2 ^ 32 = omega arith in
    rw moved (or_shifted (high % 2 ^ 32) 32 low below)
