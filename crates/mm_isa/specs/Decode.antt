-- The instruction that a word spells.
use Rattle.std.specs.Prelude.{ℕ, ◌/◌, ◌%◌, ◌^◌, min, ◌==◌, if◌then◌else◌, ℤ, option_and_then, Option, List, [], ◌∷◌}
use Rattle.std.specs.{Prelude.{map, find}, Str.bytes_eq, Bool.then_some, Int.{w32, cast_signed, cast_unsigned}}
use Rattle.mm_word.specs.declared.word.{Pre.Pre, Post.Post}
use Rattle.mm_isa.specs.declared.fields.Fields.{Fields}
use Rattle.mm_isa.specs.declared.instr.AluOp.TheVariants.{Add, Sub, Mul, Divu, Remu, And, Or, Xor, Shl, Shr, Sar, Eq}
use Rattle.mm_isa.specs.declared.instr.{AluOp.TheVariants.{Ltu, Lts}, How.{How, TheVariants.{Retry, Skip, Kill}}}
use Rattle.mm_isa.specs.declared.instr.Instr.{Instr}
use Rattle.mm_isa.specs.declared.instr.Instr.TheVariants.{Halt, Nop, Ldi, Ldhi, Mov, Isptr, Eqw, Out, SelfSlot, Alu}
use Rattle.mm_isa.specs.declared.instr.Instr.TheVariants.{Addi, Lea, Leai, Leab, Restrict, Subseg, Setptr, Ld, St, Br}
use Rattle.mm_isa.specs.declared.instr.Instr.TheVariants.{Bz, Bnz, Jmp, Jal, Lip, Trap, Evt, Resume, Rreg, Wreg, Map}
use Rattle.mm_isa.specs.declared.{instr.Instr.TheVariants.Unmap, operand.OperandKind.OperandKind}
use Rattle.mm_isa.specs.Table.{operation_of, kinds_of, unused, spelling}
use Rattle.mm_word.specs.declared.word.Pre.TheVariants as pre
use Rattle.mm_word.specs.declared.word.Post.TheVariants as post

-- the fields of a word
unfoldable pub fields_in : ℕ → Fields
fields_in w = record {
  operation = w / 2 ^ 56;
  rd = w / 2 ^ 52 % 16;
  ra = w / 2 ^ 48 % 16;
  rb = w / 2 ^ 44 % 16;
  c = w / 2 ^ 40 % 16;
  imm = cast_signed w32 (w % 2 ^ 32);
}

-- the condition of an access. A narrow field is read as a value in its range, whatever its bits are
abbrev pub pre_in : ℕ → Pre
pre_in c = if c / 4 == 0 then pre.Any else (if c / 4 == 1 then pre.Full else pre.Empty)

-- what an access leaves in the synchronisation bit
abbrev pub post_in : ℕ → Post
post_in c = if c % 4 == 0 then post.Keep else (if c % 4 == 1 then post.Full else post.Empty)

-- the way to resume
abbrev pub how_in : ℕ → How
how_in c = if c == 0 then Retry else (if c == 1 then Skip else Kill)

-- the register whose number is the constant
abbrev pub register_in : ℤ → ℕ
register_in imm = cast_unsigned w32 imm % 16

-- the rows of the table with these fields, in the table's order
unfoldable pub rows : Fields → List Instr
rows f =
    Halt
    ∷ Nop
    ∷ Ldi f.rd f.imm
    ∷ Ldhi f.rd f.imm
    ∷ Mov f.rd f.ra
    ∷ Isptr f.rd f.ra
    ∷ Eqw f.rd f.ra f.rb
    ∷ Out f.ra
    ∷ SelfSlot f.rd
    ∷ Alu Add f.rd f.ra f.rb
    ∷ Alu Sub f.rd f.ra f.rb
    ∷ Alu Mul f.rd f.ra f.rb
    ∷ Alu Divu f.rd f.ra f.rb
    ∷ Alu Remu f.rd f.ra f.rb
    ∷ Alu And f.rd f.ra f.rb
    ∷ Alu Or f.rd f.ra f.rb
    ∷ Alu Xor f.rd f.ra f.rb
    ∷ Alu Shl f.rd f.ra f.rb
    ∷ Alu Shr f.rd f.ra f.rb
    ∷ Alu Sar f.rd f.ra f.rb
    ∷ Alu Eq f.rd f.ra f.rb
    ∷ Alu Ltu f.rd f.ra f.rb
    ∷ Alu Lts f.rd f.ra f.rb
    ∷ Addi f.rd f.ra f.imm
    ∷ Lea f.rd f.ra f.rb
    ∷ Leai f.rd f.ra f.imm
    ∷ Leab f.rd f.ra f.rb
    ∷ Restrict f.rd f.ra f.rb
    ∷ Subseg f.rd f.ra f.rb
    ∷ Setptr f.rd f.ra
    ∷ Ld f.rd f.ra (pre_in f.c) (post_in f.c) f.imm
    ∷ St f.ra f.rb (pre_in f.c) (post_in f.c) f.imm
    ∷ Br f.imm
    ∷ Bz f.ra f.imm
    ∷ Bnz f.ra f.imm
    ∷ Jmp f.ra
    ∷ Jal f.rd f.ra
    ∷ Lip f.rd f.imm
    ∷ Trap f.imm
    ∷ Evt (min f.rd 12)
    ∷ Resume f.ra (how_in f.c)
    ∷ Rreg f.rd f.ra (register_in f.imm)
    ∷ Wreg f.ra f.rb (register_in f.imm)
    ∷ Map f.rd f.ra
    ∷ Unmap f.rd f.ra
    ∷ []

-- the row of the operation that these fields name
unfoldable pub row_of : Fields → Option Instr
row_of f = find (λ i. (operation_of i).code == f.operation) (rows f)

-- the instruction that a word spells: the row of its operation, if the word is the row's spelling
unfoldable pub instr_of : ℕ → Option Instr
instr_of w = option_and_then (λ i. then_some (spelling i == w) i) (row_of (fields_in w))

-- an operation of the table without the values of its operands
pub record Form : Type 0 where
  pub name : List ℕ
  pub code : ℕ
  pub kinds : List OperandKind

abbrev pub form_of : Instr → Form
form_of i = record { name = (operation_of i).name; code = (operation_of i).code; kinds = kinds_of i }

-- all operations, in the table's order
unfoldable pub forms : List Form
forms = map form_of (rows (unused 0))

-- the operation with this name
unfoldable pub operation_named : List ℕ → Option Form
operation_named name = find (λ form. bytes_eq form.name name) forms
