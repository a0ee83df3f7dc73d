-- The range of results.
use Rattle.std.proofs.Common.{ℕ, ◌*◌, ◌/◌, ◌%◌, ◌^◌, ◌<◌, ℤ, pos, negsuc, arith, IfOk, Bool, true, false, lit<}
use Rattle.std.proofs.Common.{if◌then◌else◌, ◌==◌, nat_lt, int_lt, Ok, Err, FitsSigned}
use Rattle.std.proofs.Math.{Facts.{sfits_to_z, Fits-bits}, Nat.{div-le_self, mod-le}}
use Rattle.std.proofs.lemmas.Nat.{or_lt, xor_lt, and_le_l, shr_le, mod_below}
use Rattle.std.specs.Int.{w64, cast_unsigned, int_div_euclid}
use Rattle.mm_isa.specs.declared.instr.AluOp.{AluOp}
use Rattle.mm_isa.specs.declared.instr.AluOp.TheVariants.{Add, Sub, Mul, Divu, Remu, And, Or, Xor, Shl, Shr, Sar, Eq}
use Rattle.mm_isa.specs.{declared.instr.AluOp.TheVariants.{Ltu, Lts}, Alu.{alu_result, answer, signed, div_zero}}

divided_fits : (t : Bool) (n : ℕ) → n < 2 ^ 64 → IfOk (if t then Err div_zero else Ok n) (λ r. r < 2 ^ 64)
divided_fits true n h = tt
divided_fits false n h = h

quotient_fits : (z : ℤ) (m : ℕ) → FitsSigned w64 z → cast_unsigned w64 (int_div_euclid z (pos m)) < 2 ^ 64
quotient_fits (pos a) m h = omega (arith, h.sfits, div-le_self a m)
quotient_fits (negsuc a) m h = omega arith

answer_fits : (t : Bool) → answer t < 2 ^ 64
answer_fits true = lit< tt
answer_fits false = lit< tt

pub alu_result-fits : (op : AluOp) (a b : ℕ) → a < 2 ^ 64 → b < 2 ^ 64 → IfOk (alu_result op a b) (λ r. r < 2 ^ 64)
alu_result-fits Add a b ha hb = omega arith
alu_result-fits Sub a b ha hb = omega arith
alu_result-fits Mul a b ha hb = mod_below (a * b) (2 ^ 64) (lit< tt)
alu_result-fits Divu a b ha hb = divided_fits (b == 0) (a / b) (omega (arith, div-le_self a b))
alu_result-fits Remu a b ha hb = divided_fits (b == 0) (a % b) (omega (arith, mod-le a b))
alu_result-fits And a b ha hb = omega (arith, and_le_l a b)
alu_result-fits Or a b ha hb = or_lt 64 a b ha hb
alu_result-fits Xor a b ha hb = xor_lt 64 a b ha hb
alu_result-fits Shl a b ha hb = mod_below (a * 2 ^ (b % 64)) (2 ^ 64) (lit< tt)
alu_result-fits Shr a b ha hb = omega (arith, shr_le a (b % 64))
alu_result-fits Sar a b ha hb = quotient_fits (signed a) (2 ^ (b % 64)) (sfits_to_z (Fits-bits 64 tt ha))
alu_result-fits Eq a b ha hb = answer_fits (a == b)
alu_result-fits Ltu a b ha hb = answer_fits (nat_lt a b)
alu_result-fits Lts a b ha hb = answer_fits (int_lt (signed a) (signed b))
