-- A word that is put together operand by operand.
use Rattle.std.specs.{Prelude.{ℕ, ◌+◌, ◌*◌, ◌%◌, ◌^◌}, Int.{w32, cast_unsigned}}
use Rattle.mm_isa.specs.declared.sum.Sum.{Sum}
use Rattle.mm_isa.specs.declared.operand.Operand.{Operand}
use Rattle.mm_isa.specs.declared.operand.Operand.TheVariants.{Rd, EvtRd, Ra, Rb, Imm, Distance, RegisterNumber}
use Rattle.mm_isa.specs.Table.{pre_code, post_code, how_code}
use Rattle.mm_isa.specs.declared.operand.Operand.TheVariants as operand

-- an operand at its place in a word, with zero elsewhere
abbrev pub placed : Operand → ℕ
placed (Rd r) = r * 2 ^ 52
placed (EvtRd r) = r * 2 ^ 52
placed (Ra r) = r * 2 ^ 48
placed (Rb r) = r * 2 ^ 44
placed (Imm n) = cast_unsigned w32 n
placed (Distance n) = cast_unsigned w32 n
placed (RegisterNumber r) = r
placed (operand.Pre p) = pre_code p * 2 ^ 42
placed (operand.Post p) = post_code p * 2 ^ 40
placed (operand.How h) = how_code h * 2 ^ 40

-- the sum with one operand more
abbrev pub added : Sum → Operand → Sum
added s o = record { word = (s.word + placed o) % 2 ^ 64 }
