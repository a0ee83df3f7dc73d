-- Operands in their range fit their places in a word.
use Rattle.std.proofs.{Common.{ℕ, ◌<◌, pos, FitsSigned, List, [], ◌∷◌, fold, arith, lit<}, lemmas.Int.ints}
use Rattle.std.specs.{Int.w32, List.AllByRecursion}
use Rattle.mm_word.specs.declared.word.{Pre.Pre, Post.Post}
use Rattle.mm_isa.specs.declared.fields.Fields.{Fields}
use Rattle.mm_isa.specs.declared.instr.{AluOp.{AluOp, TheVariants.Add}, How.{How, TheVariants.{Retry, Skip, Kill}}}
use Rattle.mm_isa.specs.declared.instr.Instr.{Instr, TheVariants.{Halt, Alu}}
use Rattle.mm_isa.specs.declared.operand.Operand.{Operand}
use Rattle.mm_isa.specs.declared.operand.Operand.TheVariants.{Rd, EvtRd, Ra, Rb, Imm, Distance, RegisterNumber}
use Rattle.mm_isa.specs.Table.{integer, operation_of, unused, put, pre_code, post_code, how_code, fields_of, FitInWord}
use Rattle.mm_isa.specs.Table.{IsInRange, IsInstr}
use Rattle.mm_word.specs.declared.word.Pre.TheVariants as pre
use Rattle.mm_word.specs.declared.word.Post.TheVariants as post
use Rattle.mm_isa.specs.declared.operand.Operand.TheVariants as operand

fits : (f : Fields) → f.operation < 256 → f.rd < 16 → f.ra < 16 → f.rb < 16 → f.c < 16 → FitsSigned w32 f.imm → FitInWord f
fits f operation rd ra rb c imm = record { operation = operation; rd = rd; ra = ra; rb = rb; c = c; imm = imm }

pub number_fits : (r : ℕ) → r < 16 → FitsSigned w32 (pos r)
number_fits r h = omega (arith, ints)

pre_small : (p : Pre) → pre_code p < 3
pre_small pre.Any = lit< tt
pre_small pre.Full = lit< tt
pre_small pre.Empty = lit< tt

pub post_small : (p : Post) → post_code p < 3
post_small post.Keep = lit< tt
post_small post.Full = lit< tt
post_small post.Empty = lit< tt

how_small : (h : How) → how_code h < 16
how_small Retry = lit< tt
how_small Skip = lit< tt
how_small Kill = lit< tt

-- the condition stays in its four bits
pub put_narrow : (f : Fields) (o : Operand) → f.c < 16 → (put f o).c < 16
put_narrow f (operand.Pre p) h = omega (arith, pre_small p)
put_narrow f (operand.Post p) h = omega (arith, post_small p)
put_narrow f (operand.How w) h = how_small w
put_narrow f (Rd r) h = h
put_narrow f _ h = h

put_fits : (f : Fields) (o : Operand) → FitInWord f → IsInRange o → FitInWord (put f o)
put_fits f (Rd r) h k = fits (put f (Rd r)) h.operation k h.ra h.rb h.c h.imm
put_fits f (EvtRd r) h k = fits (put f (EvtRd r)) h.operation (omega arith) h.ra h.rb h.c h.imm
put_fits f (Ra r) h k = fits (put f (Ra r)) h.operation h.rd k h.rb h.c h.imm
put_fits f (Rb r) h k = fits (put f (Rb r)) h.operation h.rd h.ra k h.c h.imm
put_fits f (Imm n) h k = fits (put f (Imm n)) h.operation h.rd h.ra h.rb h.c k
put_fits f (Distance n) h k = fits (put f (Distance n)) h.operation h.rd h.ra h.rb h.c k
put_fits f (RegisterNumber r) h k = fits (put f (RegisterNumber r)) h.operation h.rd h.ra h.rb h.c (number_fits r k)
put_fits f (operand.Pre p) h k = fits (put f (operand.Pre p)) h.operation h.rd h.ra h.rb (put_narrow f (operand.Pre p) h.c) h.imm
put_fits f (operand.Post p) h k = fits (put f (operand.Post p)) h.operation h.rd h.ra h.rb (put_narrow f (operand.Post p) h.c) h.imm
put_fits f (operand.How w) h k = fits (put f (operand.How w)) h.operation h.rd h.ra h.rb (how_small w) h.imm

all_fit : (os : List Operand) (f : Fields) → FitInWord f → AllByRecursion IsInRange os → FitInWord (fold put f os)
all_fit [] f h k = h
all_fit (o ∷ os) f h k = all_fit os (put f o) (put_fits f o h k.0) k.1

integer_small : (op : AluOp) → (integer op).1 < 0x62
integer_small Add = lit< tt
integer_small _ = lit< tt

pub code_small : (i : Instr) → (operation_of i).code < 0x62
code_small (Alu op rd ra rb) = integer_small op
code_small Halt = lit< tt
code_small _ = lit< tt

unused_fits : (n : ℕ) → n < 256 → FitInWord (unused n)
unused_fits n h = record { operation = h; rd = lit< tt; ra = lit< tt; rb = lit< tt; c = lit< tt; imm = number_fits 0 (lit< tt) }

-- an instruction's fields fit their places in its word
pub fields_fit : (i : Instr) → IsInstr i → FitInWord (fields_of i)
fields_fit i h = all_fit (operation_of i).operands (unused (operation_of i).code) (unused_fits (operation_of i).code (omega (arith, code_small i))) h.operands
