-- A word that is put together operand by operand is the instruction's.
use Rattle.std.proofs.Common.{◌≡◌, ◌*◌, ◌^◌, ◌<◌, ◌≤◌, fold, arith}
use Rattle.mm_word.specs.declared.word.{Pre.Pre, Post.Post}
use Rattle.mm_isa.specs.declared.sum.Sum.{Sum}
use Rattle.mm_isa.specs.declared.instr.AluOp.{AluOp}
use Rattle.mm_isa.specs.declared.instr.AluOp.TheVariants.{Add, Sub, Mul, Divu, Remu, And, Or, Xor, Shl, Shr, Sar, Eq}
use Rattle.mm_isa.specs.declared.instr.{AluOp.TheVariants.{Ltu, Lts}, How.{How, TheVariants.{Retry, Skip, Kill}}}
use Rattle.mm_isa.specs.declared.instr.Instr.{Instr}
use Rattle.mm_isa.specs.declared.instr.Instr.TheVariants.{Halt, Nop, Ldi, Ldhi, Mov, Isptr, Eqw, Out, SelfSlot, Alu}
use Rattle.mm_isa.specs.declared.instr.Instr.TheVariants.{Addi, Lea, Leai, Leab, Restrict, Subseg, Setptr, Ld, St, Br}
use Rattle.mm_isa.specs.declared.instr.Instr.TheVariants.{Bz, Bnz, Jmp, Jal, Lip, Trap, Evt, Resume, Rreg, Wreg, Map}
use Rattle.mm_isa.specs.declared.instr.Instr.TheVariants.{Unmap}
use Rattle.mm_isa.specs.Table.{operation_of, number_of, pre_code, post_code, how_code, packed, spelling, IsInstr}
use Rattle.mm_isa.{specs.Sum.added, proofs.Packing.cast_below}
use Rattle.mm_word.specs.declared.word.Pre.TheVariants as pre
use Rattle.mm_word.specs.declared.word.Post.TheVariants as post

number_fits : (op : AluOp) → number_of op < 256
number_fits Add = omega arith
number_fits Sub = omega arith
number_fits Mul = omega arith
number_fits Divu = omega arith
number_fits Remu = omega arith
number_fits And = omega arith
number_fits Or = omega arith
number_fits Xor = omega arith
number_fits Shl = omega arith
number_fits Shr = omega arith
number_fits Sar = omega arith
number_fits Eq = omega arith
number_fits Ltu = omega arith
number_fits Lts = omega arith

pre_fits : (p : Pre) → pre_code p ≤ 2
pre_fits pre.Any = omega arith
pre_fits pre.Full = omega arith
pre_fits pre.Empty = omega arith

post_fits : (p : Post) → post_code p ≤ 2
post_fits post.Keep = omega arith
post_fits post.Full = omega arith
post_fits post.Empty = omega arith

how_fits : (h : How) → how_code h ≤ 2
how_fits Retry = omega arith
how_fits Skip = omega arith
how_fits Kill = omega arith

abbrev sum_of : Instr → Sum
sum_of i = fold added (record { word = (operation_of i).code * 2 ^ 56 }) (operation_of i).operands

pub sum_is_spelling : (i : Instr) → IsInstr i → (sum_of i).word ≡ spelling i
unfolding packed
sum_is_spelling Halt h = omega arith
sum_is_spelling Nop h = omega arith
sum_is_spelling (Ldi a b) h = omega (arith, h.operands.0, cast_below b h.operands.1.0)
sum_is_spelling (Ldhi a b) h = omega (arith, h.operands.0, cast_below b h.operands.1.0)
sum_is_spelling (Mov a b) h = omega (arith, h.operands.0, h.operands.1.0)
sum_is_spelling (Isptr a b) h = omega (arith, h.operands.0, h.operands.1.0)
sum_is_spelling (Eqw a b d) h = omega (arith, h.operands.0, h.operands.1.0, h.operands.1.1.0)
sum_is_spelling (Out a) h = omega (arith, h.operands.0)
sum_is_spelling (SelfSlot a) h = omega (arith, h.operands.0)
sum_is_spelling (Alu op b d e) h = omega (arith, number_fits op, h.operands.0, h.operands.1.0, h.operands.1.1.0)
sum_is_spelling (Addi a b d) h = omega (arith, h.operands.0, h.operands.1.0, cast_below d h.operands.1.1.0)
sum_is_spelling (Lea a b d) h = omega (arith, h.operands.0, h.operands.1.0, h.operands.1.1.0)
sum_is_spelling (Leai a b d) h = omega (arith, h.operands.0, h.operands.1.0, cast_below d h.operands.1.1.0)
sum_is_spelling (Leab a b d) h = omega (arith, h.operands.0, h.operands.1.0, h.operands.1.1.0)
sum_is_spelling (Restrict a b d) h = omega (arith, h.operands.0, h.operands.1.0, h.operands.1.1.0)
sum_is_spelling (Subseg a b d) h = omega (arith, h.operands.0, h.operands.1.0, h.operands.1.1.0)
sum_is_spelling (Setptr a b) h = omega (arith, h.operands.0, h.operands.1.0)
sum_is_spelling (Ld a b d e f) h = omega (arith, h.operands.0, h.operands.1.0, cast_below f h.operands.1.1.0, pre_fits d, post_fits e)
sum_is_spelling (St a b d e f) h = omega (arith, h.operands.0, h.operands.1.0, cast_below f h.operands.1.1.0, pre_fits d, post_fits e)
sum_is_spelling (Br a) h = omega (arith, cast_below a h.operands.0)
sum_is_spelling (Bz a b) h = omega (arith, h.operands.0, cast_below b h.operands.1.0)
sum_is_spelling (Bnz a b) h = omega (arith, h.operands.0, cast_below b h.operands.1.0)
sum_is_spelling (Jmp a) h = omega (arith, h.operands.0)
sum_is_spelling (Jal a b) h = omega (arith, h.operands.0, h.operands.1.0)
sum_is_spelling (Lip a b) h = omega (arith, h.operands.0, cast_below b h.operands.1.0)
sum_is_spelling (Trap a) h = omega (arith, cast_below a h.operands.0)
sum_is_spelling (Evt a) h = omega (arith, h.operands.0)
sum_is_spelling (Resume a b) h = omega (arith, h.operands.0, how_fits b)
sum_is_spelling (Rreg a b d) h = omega (arith, h.operands.0, h.operands.1.0, h.operands.1.1.0)
sum_is_spelling (Wreg a b d) h = omega (arith, h.operands.0, h.operands.1.0, h.operands.1.1.0)
sum_is_spelling (Map a b) h = omega (arith, h.operands.0, h.operands.1.0)
sum_is_spelling (Unmap a b) h = omega (arith, h.operands.0, h.operands.1.0)
