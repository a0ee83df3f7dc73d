-- The table of operations: each with its name, its number and its operands. The fields of an instruction word follow
-- from it.
use Rattle.std.specs.Prelude.{ℕ, ◌+◌, ◌*◌, ◌/◌, ◌%◌, ◌^◌, ◌<◌, ◌≤◌, pos, FitsSigned, List, [], ◌∷◌, map, fold, codes}
use Rattle.std.specs.{List.AllByRecursion, Int.{w32, cast_unsigned}}
use Prim.Native.String.{String}
use Rattle.mm_word.specs.declared.word.{Pre.Pre, Post.Post}
use Rattle.mm_isa.specs.declared.fields.Fields.{Fields}
use Rattle.mm_isa.specs.declared.instr.AluOp.{AluOp}
use Rattle.mm_isa.specs.declared.instr.AluOp.TheVariants.{Add, Sub, Mul, Divu, Remu, And, Or, Xor, Shl, Shr, Sar, Eq}
use Rattle.mm_isa.specs.declared.instr.{AluOp.TheVariants.{Ltu, Lts}, How.{How, TheVariants.{Retry, Skip, Kill}}}
use Rattle.mm_isa.specs.declared.instr.Instr.{Instr}
use Rattle.mm_isa.specs.declared.instr.Instr.TheVariants.{Halt, Nop, Ldi, Ldhi, Mov, Isptr, Eqw, Out, SelfSlot, Alu}
use Rattle.mm_isa.specs.declared.instr.Instr.TheVariants.{Addi, Lea, Leai, Leab, Restrict, Subseg, Setptr, Ld, St, Br}
use Rattle.mm_isa.specs.declared.instr.Instr.TheVariants.{Bz, Bnz, Jmp, Jal, Lip, Trap, Evt, Resume, Rreg, Wreg, Map}
use Rattle.mm_isa.specs.declared.instr.Instr.TheVariants.{Unmap}
use Rattle.mm_isa.specs.declared.operand.Operand.{Operand}
use Rattle.mm_isa.specs.declared.operand.Operand.TheVariants.{Rd, EvtRd, Ra, Rb, Imm, Distance, RegisterNumber}
use Rattle.mm_isa.specs.declared.operand.OperandKind.{OperandKind}
use Rattle.mm_word.specs.declared.word.Pre.TheVariants as pre
use Rattle.mm_word.specs.declared.word.Post.TheVariants as post
use Rattle.mm_isa.specs.declared.operand.Operand.TheVariants as operand
use Rattle.mm_isa.specs.declared.operand.OperandKind.TheVariants as kind

-- an operation with the operands of one instruction, in the order in which text has them
pub record Operation : Type 0 where
  pub name : List ℕ
  pub code : ℕ
  pub operands : List Operand

-- a row of the table: the operation's name, number and operands
abbrev pub row : String → ℕ → List Operand → Operation
row name code operands = record { name = codes name; code = code; operands = operands }

-- the name and the number of each integer operation
abbrev pub integer : AluOp → List ℕ × ℕ
integer Add = (codes "add", 0x10)
integer Sub = (codes "sub", 0x11)
integer Mul = (codes "mul", 0x12)
integer Divu = (codes "divu", 0x13)
integer Remu = (codes "remu", 0x14)
integer And = (codes "and", 0x15)
integer Or = (codes "or", 0x16)
integer Xor = (codes "xor", 0x17)
integer Shl = (codes "shl", 0x18)
integer Shr = (codes "shr", 0x19)
integer Sar = (codes "sar", 0x1a)
integer Eq = (codes "eq", 0x1b)
integer Ltu = (codes "ltu", 0x1c)
integer Lts = (codes "lts", 0x1d)

-- the table, by rising numbers. Operands are in the order rd, ra, rb, imm, c; the c of ld and st is two operands
abbrev pub operation_of : Instr → Operation
operation_of Halt = row "halt" 0x00 []
operation_of Nop = row "nop" 0x01 []
operation_of (Ldi rd imm) = row "ldi" 0x02 (Rd rd ∷ Imm imm ∷ [])
operation_of (Ldhi rd imm) = row "ldhi" 0x03 (Rd rd ∷ Imm imm ∷ [])
operation_of (Mov rd ra) = row "mov" 0x04 (Rd rd ∷ Ra ra ∷ [])
operation_of (Isptr rd ra) = row "isptr" 0x05 (Rd rd ∷ Ra ra ∷ [])
operation_of (Eqw rd ra rb) = row "eqw" 0x06 (Rd rd ∷ Ra ra ∷ Rb rb ∷ [])
operation_of (Out ra) = row "out" 0x07 (Ra ra ∷ [])
operation_of (SelfSlot rd) = row "self" 0x08 (Rd rd ∷ [])
operation_of (Alu op rd ra rb) =
    record { name = (integer op).0; code = (integer op).1; operands = Rd rd ∷ Ra ra ∷ Rb rb ∷ [] }
operation_of (Addi rd ra imm) = row "addi" 0x1e (Rd rd ∷ Ra ra ∷ Imm imm ∷ [])
operation_of (Lea rd ra rb) = row "lea" 0x20 (Rd rd ∷ Ra ra ∷ Rb rb ∷ [])
operation_of (Leai rd ra imm) = row "leai" 0x21 (Rd rd ∷ Ra ra ∷ Imm imm ∷ [])
operation_of (Leab rd ra rb) = row "leab" 0x22 (Rd rd ∷ Ra ra ∷ Rb rb ∷ [])
operation_of (Restrict rd ra rb) = row "restrict" 0x23 (Rd rd ∷ Ra ra ∷ Rb rb ∷ [])
operation_of (Subseg rd ra rb) = row "subseg" 0x24 (Rd rd ∷ Ra ra ∷ Rb rb ∷ [])
operation_of (Setptr rd ra) = row "setptr" 0x25 (Rd rd ∷ Ra ra ∷ [])
operation_of (Ld rd ra pre post imm) =
    row "ld" 0x30 (Rd rd ∷ Ra ra ∷ Imm imm ∷ operand.Pre pre ∷ operand.Post post ∷ [])
operation_of (St ra rb pre post imm) =
    row "st" 0x31 (Ra ra ∷ Rb rb ∷ Imm imm ∷ operand.Pre pre ∷ operand.Post post ∷ [])
operation_of (Br imm) = row "br" 0x40 (Distance imm ∷ [])
operation_of (Bz ra imm) = row "bz" 0x41 (Ra ra ∷ Distance imm ∷ [])
operation_of (Bnz ra imm) = row "bnz" 0x42 (Ra ra ∷ Distance imm ∷ [])
operation_of (Jmp ra) = row "jmp" 0x43 (Ra ra ∷ [])
operation_of (Jal rd ra) = row "jal" 0x44 (Rd rd ∷ Ra ra ∷ [])
operation_of (Lip rd imm) = row "lip" 0x45 (Rd rd ∷ Distance imm ∷ [])
operation_of (Trap imm) = row "trap" 0x50 (Imm imm ∷ [])
operation_of (Evt rd) = row "evt" 0x51 (EvtRd rd ∷ [])
operation_of (Resume ra how) = row "resume" 0x52 (Ra ra ∷ operand.How how ∷ [])
operation_of (Rreg rd ra reg) = row "rreg" 0x53 (Rd rd ∷ Ra ra ∷ RegisterNumber reg ∷ [])
operation_of (Wreg ra rb reg) = row "wreg" 0x54 (Ra ra ∷ Rb rb ∷ RegisterNumber reg ∷ [])
operation_of (Map rd ra) = row "map" 0x60 (Rd rd ∷ Ra ra ∷ [])
operation_of (Unmap rd ra) = row "unmap" 0x61 (Rd rd ∷ Ra ra ∷ [])

-- the number of an integer operation
abbrev pub number_of : AluOp → ℕ
number_of op = (integer op).1

-- an operand without its value
abbrev pub kind_of : Operand → OperandKind
kind_of (Rd r) = kind.Rd
kind_of (EvtRd r) = kind.EvtRd
kind_of (Ra r) = kind.Ra
kind_of (Rb r) = kind.Rb
kind_of (Imm n) = kind.Imm
kind_of (Distance n) = kind.Distance
kind_of (RegisterNumber r) = kind.RegisterNumber
kind_of (operand.Pre p) = kind.Pre
kind_of (operand.Post p) = kind.Post
kind_of (operand.How h) = kind.How

-- the kinds of an instruction's operands
abbrev pub kinds_of : Instr → List OperandKind
kinds_of i = map kind_of (operation_of i).operands

-- the fields of an operation that uses none
abbrev pub unused : ℕ → Fields
unused n = record { operation = n; rd = 0; ra = 0; rb = 0; c = 0; imm = pos 0 }

-- the upper part of the field c of ld and st: what the synchronisation bit must be
abbrev pub pre_code : Pre → ℕ
pre_code pre.Any = 0
pre_code pre.Full = 1
pre_code pre.Empty = 2

-- the lower part of the field c of ld and st: what the synchronisation bit becomes
abbrev pub post_code : Post → ℕ
post_code post.Keep = 0
post_code post.Full = 1
post_code post.Empty = 2

-- the field c of resume
abbrev pub how_code : How → ℕ
how_code Retry = 0
how_code Skip = 1
how_code Kill = 2

-- the fields with an operand in its place
abbrev pub put : Fields → Operand → Fields
put f (Rd r) = record f { rd = r }
put f (EvtRd r) = record f { rd = r }
put f (Ra r) = record f { ra = r }
put f (Rb r) = record f { rb = r }
put f (Imm n) = record f { imm = n }
put f (Distance n) = record f { imm = n }
put f (RegisterNumber r) = record f { imm = pos r }
put f (operand.Pre p) = record f { c = pre_code p * 4 + f.c % 4 }
put f (operand.Post p) = record f { c = f.c / 4 * 4 + post_code p }
put f (operand.How h) = record f { c = how_code h }

-- the fields of an instruction: its operands in their places, and zero elsewhere
abbrev pub fields_of : Instr → Fields
fields_of i = fold put (unused (operation_of i).code) (operation_of i).operands

-- an operand is in its range
abbrev pub IsInRange : Operand → Type 0
IsInRange (Rd r) = r < 16
IsInRange (EvtRd r) = r ≤ 12
IsInRange (Ra r) = r < 16
IsInRange (Rb r) = r < 16
IsInRange (Imm n) = FitsSigned w32 n
IsInRange (Distance n) = FitsSigned w32 n
IsInRange (RegisterNumber r) = r < 16
IsInRange _ = Unit {0}

-- an instruction's operands are in range, so that it has a word
pub record IsInstr (i : Instr) : Type 0 where
  pub operands : AllByRecursion IsInRange (operation_of i).operands

-- fields that fit their places in a word
pub record FitInWord (f : Fields) : Type 0 where
  pub operation : f.operation < 256
  pub rd : f.rd < 16
  pub ra : f.ra < 16
  pub rb : f.rb < 16
  pub c : f.c < 16
  pub imm : FitsSigned w32 f.imm

-- the word of these fields: the operation from bit 56 on, rd from 52, ra from 48, rb from 44, c from 40, imm from 0
unfoldable pub packed : Fields → ℕ
packed f =
    f.operation * 2 ^ 56 + f.rd * 2 ^ 52 + f.ra * 2 ^ 48 + f.rb * 2 ^ 44 + f.c * 2 ^ 40 + cast_unsigned w32 f.imm

-- the 64 bits of an instruction
abbrev pub spelling : Instr → ℕ
spelling i = packed (fields_of i)
