-- The results of the integer operations, over numbers below 2 ^ 64.
use Rattle.std.specs.Prelude.{ℕ, ℤ, pos, ◌+◌, ◌-◌, ◌*◌, ◌/◌, ◌%◌, ◌^◌, Bool, true, false, ◌==◌, nat_lt, if◌then◌else◌}
use Rattle.std.specs.Prelude.{int_lt, bit_and, bit_or, bit_xor, Result, Ok, Err}
use Rattle.std.specs.Int.{w64, cast_signed, cast_unsigned, int_div_euclid}
use Rattle.mm_isa.specs.declared.instr.DivZero.{DivZero}
use Rattle.mm_isa.specs.declared.instr.AluOp.{AluOp}
use Rattle.mm_isa.specs.declared.instr.AluOp.TheVariants.{Add, Sub, Mul, Divu, Remu, And, Or, Xor, Shl, Shr, Sar, Eq}
use Rattle.mm_isa.specs.declared.instr.AluOp.TheVariants.{Ltu, Lts}

-- the one value of `DivZero`
abbrev pub div_zero : DivZero
div_zero = record {}

-- whether an operation divides by its second operand
abbrev pub divides : AluOp → Bool
divides Divu = true
divides Remu = true
divides _ = false

-- a test's answer as an integer
abbrev pub answer : Bool → ℕ
answer true = 1
answer false = 0

-- an integer's bits read in two's complement
abbrev pub signed : ℕ → ℤ
signed a = cast_signed w64 a

-- the result of an operation. Differences are modulo 2 ^ 64, and an arithmetic shift gives the signed quotient by a
-- power of 2, rounded down
abbrev pub alu_result : AluOp → ℕ → ℕ → Result ℕ DivZero
alu_result Add a b = Ok ((a + b) % 2 ^ 64)
alu_result Sub a b = Ok ((a + (2 ^ 64 - b)) % 2 ^ 64)
alu_result Mul a b = Ok (a * b % 2 ^ 64)
alu_result Divu a b = if b == 0 then Err div_zero else Ok (a / b)
alu_result Remu a b = if b == 0 then Err div_zero else Ok (a % b)
alu_result And a b = Ok (bit_and a b)
alu_result Or a b = Ok (bit_or a b)
alu_result Xor a b = Ok (bit_xor a b)
alu_result Shl a b = Ok (a * 2 ^ (b % 64) % 2 ^ 64)
alu_result Shr a b = Ok (a / 2 ^ (b % 64))
alu_result Sar a b = Ok (cast_unsigned w64 (int_div_euclid (signed a) (pos (2 ^ (b % 64)))))
alu_result Eq a b = Ok (answer (a == b))
alu_result Ltu a b = Ok (answer (nat_lt a b))
alu_result Lts a b = Ok (answer (int_lt (signed a) (signed b)))
