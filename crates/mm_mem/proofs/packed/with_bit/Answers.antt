use Rattle.std.proofs.Common.{sym, ap, ◌∙◌, w8}
use Rattle.std.proofs.lemmas.Nat.Bits.{bit_at_set_same, bit_at_set_other, bit_at_clear_same, bit_at_clear_other}
use Rattle.std.specs.Prelude.{◌==◌}
use Rattle.mm_mem.proofs.packed.with_bit.Goals as goal

pub returns-then-bit-clause-own : goal.returns-then-bit-clause-own
returns-then-bit-clause-own c = ap (λ n. n == 1) (bit_at_set_same w8 c.args.byte c.args.index c.requires) ∙ sym c.if-bit.true

pub returns-then-bit-clause-others : goal.returns-then-bit-clause-others
returns-then-bit-clause-others c = λ i lt ne. ap (λ n. n == 1) (bit_at_set_other w8 c.args.byte c.args.index c.requires i ne)

pub returns-else-bit-clause-own : goal.returns-else-bit-clause-own
returns-else-bit-clause-own c = ap (λ n. n == 1) (bit_at_clear_same w8 c.args.byte c.args.index c.requires) ∙ sym c.if-bit.false

pub returns-else-bit-clause-others : goal.returns-else-bit-clause-others
returns-else-bit-clause-others c = λ i lt ne. ap (λ n. n == 1) (bit_at_clear_other w8 c.args.byte c.args.index c.requires i lt ne)
