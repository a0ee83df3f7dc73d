-- Worked lines.
use Rattle.std.specs.Prelude.{◌≡◌, ℕ, ◌-◌, ◌^◌, true, false, List, [], ◌∷◌, length, codes, Option, Some, None, Ok, Err}
use Rattle.std.specs.Prelude.{pos, negsuc}
use Prim.Native.String.{String}
use Rattle.mm_isa.specs.{declared.instr.Instr.Instr, Table.fields_of}
use Rattle.mm_line.specs.declared.{fault.Fault.Fault, name.Mark.Mark}
use Rattle.mm_line.specs.declared.statement.{Target.Target, Constant.TheVariants.{Integer, Pointer}, Content.Content}
use Rattle.mm_line.specs.declared.statement.Statement.{Statement}
use Rattle.mm_line.specs.declared.statement.Statement.TheVariants.{Spare, Begin, Fill, Word, Thread, Register}
use Rattle.mm_line.specs.{declared.line.{Claim.Claim, Line.Line}, Tokens.{Next, next_token}, Statements.line_of}
use Rattle.mm_word.specs.declared.perm.Perm.TheVariants as perm
use Rattle.mm_word.specs.declared.word.Pre.TheVariants as pre
use Rattle.mm_word.specs.declared.word.Post.TheVariants as post
use Rattle.mm_isa.specs.declared.instr.AluOp.TheVariants as alu
use Rattle.mm_isa.specs.declared.instr.How.TheVariants as how
use Rattle.mm_isa.specs.declared.instr.Instr.TheVariants as instr
use Rattle.mm_line.specs.declared.fault.Fault.TheVariants as faults
use Rattle.mm_line.specs.declared.statement.Content.TheVariants as content
use Rattle.mm_line.specs.declared.line.Claim.TheVariants as claims
use Rattle.mm_line.specs.declared.token.Token.TheVariants as tokens

-- a text and the line that it is
abbrev pub Example : Type 0
Example = List ℕ × Line

abbrev pub IsRead : Example → Type 0
IsRead e = line_of e.0 ≡ e.1

-- a text that begins with its statement, which claims this and says this
abbrev pub says : String → Option Claim → Statement → Example
says text claim statement = (
  codes text,
  record {
    label = None;
    body = Some
        (record { left = length (codes text); claim = claim; reading = Ok statement });
  },
)

-- a text that begins with its statement, which claims this and has this fault, `left` bytes before the end
abbrev pub fails : String → Option Claim → Fault → ℕ → Example
fails text claim fault left = (
  codes text,
  record {
    label = None;
    body = Some
        (record { left = length (codes text); claim = claim; reading = Err (record { fault = fault; left = left }) });
  },
)

abbrev pub mark : String → ℕ → Mark
mark name left = record { name = codes name; left = left }

abbrev pub target : String → ℕ → ℕ → Target
target name left addend = record { mark = mark name left; addend = addend }

-- a full word that holds an integer
abbrev pub integer : ℕ → Statement
integer n = Word true (content.Constant (Integer n))

-- an instruction
abbrev pub code : Instr → Content
code i = content.Code (record { fields = fields_of i; goal = None })

-- an instruction in a full cell
abbrev pub word : Instr → Statement
word i = Word true (code i)

-- a branch to a label, in a full cell
abbrev pub branch : Instr → Mark → Statement
branch i goal = Word true (content.Code (record { fields = fields_of i; goal = Some goal }))

abbrev pub directives : List Example
directives =
    says ".spare 2" (Some (claims.Spare 8)) (Spare 2)
    ∷ says ".segment data 12" (Some (claims.Segment (mark "data" 7))) (Begin (mark "data" 7) 12)
    ∷ says ".int -1" None (integer (2 ^ 64 - 1))
    ∷ says ".int 0xFf" None (integer 255)
    ∷ says ".ptr rw data + 0x10" None (Word true (content.Constant (Pointer perm.Rw (target "data" 11 16))))
    ∷ says ".fill 131072" None (Fill 131072)
    ∷ says ".empty .int 007" None (Word false (content.Constant (Integer 7)))
    ∷ says ".empty halt" None (Word false (code instr.Halt))
    ∷ says ".thread 0 1 none xu main" (Some (claims.Slot 0 16)) (Thread 0 1 None perm.Xu (target "main" 4 0))
    ∷ says ".thread 15 1 0 xp main+8" (Some (claims.Slot 15 16)) (Thread 15 1 (Some 0) perm.Xp (target "main" 6 8))
    ∷ says ".reg 3 int 5" (Some (claims.Register 3 7)) (Register 3 (Integer 5))
    ∷ says ".reg 4 ptr key data" (Some (claims.Register 4 14)) (Register 4 (Pointer perm.Key (target "data" 4 0)))
    ∷ []

abbrev pub operations : List Example
operations =
    says "halt" None (word instr.Halt)
    ∷ says "ldi r15,0xffffffff" None (word (instr.Ldi 15 (negsuc 0)))
    ∷ says "ldi r0, -2147483648" None (word (instr.Ldi 0 (negsuc 2147483647)))
    ∷ says "ldi r0, 2147483647" None (word (instr.Ldi 0 (pos 2147483647)))
    ∷ says "add r1, r2, r3" None (word (instr.Alu alu.Add 1 2 3))
    ∷ says "ld r2, r1, -8, full, keep" None (word (instr.Ld 2 1 pre.Full post.Keep (negsuc 7)))
    ∷ says "st r1, r2, 0, any, empty" None (word (instr.St 1 2 pre.Any post.Empty (pos 0)))
    ∷ says "bz r1, -3" None (word (instr.Bz 1 (negsuc 2)))
    ∷ says "br loop" None (branch (instr.Br (pos 0)) (mark "loop" 4))
    ∷ says "lip r9, loop" None (branch (instr.Lip 9 (pos 0)) (mark "loop" 4))
    ∷ says "evt r12" None (word (instr.Evt 12))
    ∷ says "resume r1, skip" None (word (instr.Resume 1 how.Skip))
    ∷ says "rreg r1, r2, 15" None (word (instr.Rreg 1 2 15))
    ∷ []

-- faults, one kind after another
abbrev pub faulty : List Example
faulty =
    fails "halt $" None faults.Byte 1
    ∷ fails "ldi r1, -r" None faults.Byte 2
    ∷ fails "halt halt" None faults.Token 4
    ∷ fails "add r1 r2, r3" None faults.Token 6
    ∷ fails "add r1, r2, r16" None faults.Token 3
    ∷ fails "mov r01, r2" None faults.Token 7
    ∷ fails "evt r16" None faults.Token 3
    ∷ fails "ldi r1, -0x5" None faults.Token 2
    ∷ fails ".segment data" (Some (claims.Segment (mark "data" 4))) faults.Token 0
    ∷ fails ".segment data ; 12" (Some (claims.Segment (mark "data" 9))) faults.Token 0
    ∷ fails ".empty .fill 1" None faults.Token 7
    ∷ fails ".thread 0 0 non xu main" (Some (claims.Slot 0 15)) faults.Token 11
    ∷ fails ".reg 1 float 5" (Some (claims.Register 1 9)) faults.Token 7
    ∷ fails "move r1, r2" None faults.Name 11
    ∷ fails ".word 5" None faults.Name 7
    ∷ fails ".ptr wo main" None faults.Name 7
    ∷ fails ".thread 0 0 none ro main" (Some (claims.Slot 0 16)) faults.Name 7
    ∷ fails "ld r1, r2, 0, keep, any" None faults.Name 9
    ∷ fails "br a2345678901234567890123456789012" None faults.Name 32
    ∷ fails "evt r13" None faults.Range 3
    ∷ fails "ldi r1, 4294967296" None faults.Range 10
    ∷ fails "ldi r1, -2147483649" None faults.Range 11
    ∷ fails ".int 18446744073709551616" None faults.Range 20
    ∷ fails ".spare 257" (Some (claims.Spare 10)) faults.Range 3
    ∷ fails ".reg 16 int 5" None faults.Range 8
    ∷ fails ".thread 2 0 2 xu main" (Some (claims.Slot 2 13)) faults.Range 9
    ∷ []

abbrev pub labels : List Example
labels =
    (codes "", record { label = None; body = None })
    ∷ (codes "\t; halt", record { label = None; body = None })
    ∷ (codes "loop :", record { label = Some (Ok (mark "loop" 6)); body = None })
    ∷ (
      codes "a:nop",
      record {
        label = Some (Ok (mark "a" 5));
        body = Some (record { left = 3; claim = None; reading = Ok (word instr.Nop) });
      },
    )
    ∷ (
      codes "a2345678901234567890123456789012:",
      record { label = Some (Err (record { fault = faults.Name; left = 33 })); body = None },
    )
    ∷ []

abbrev pub IsNext : String × Next → Type 0
IsNext e = next_token (codes e.0) ≡ e.1

abbrev pub some_tokens : List (String × Next)
some_tokens =
    ("-0x5", record { token = tokens.Number true 0; text = codes "-0"; left = 4; rest = codes "x5" })
    ∷ ("0x", record { token = tokens.Number false 0; text = codes "0"; left = 2; rest = codes "x" })
    ∷ ("0X1", record { token = tokens.Number false 0; text = codes "0"; left = 3; rest = codes "X1" })
    ∷ ("0x1g", record { token = tokens.Number false 1; text = codes "0x1"; left = 4; rest = codes "g" })
    ∷ (
      "-9223372036854775808",
      record { token = tokens.Number true (2 ^ 63); text = codes "-9223372036854775808"; left = 20; rest = [] },
    )
    ∷ (
      "-9223372036854775809",
      record { token = tokens.Wide; text = codes "-9223372036854775809"; left = 20; rest = [] },
    )
    ∷ (" .5", record { token = tokens.Bad; text = codes "."; left = 2; rest = codes "5" })
    ∷ (".a.b", record { token = tokens.Directive; text = codes ".a"; left = 4; rest = codes ".b" })
    ∷ ("\r", record { token = tokens.End; text = []; left = 0; rest = [] })
    ∷ []
