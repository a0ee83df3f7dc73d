use Rattle.std.proofs.Common.{eqb-true, eq-eqb, sym, ap, ◌∙◌}
use Rattle.mm_word.specs.Pointer.{pointer_of, bits_of}
use Rattle.mm_machine.proofs.validate.same_pointer.Goals as goal

pub returns : goal.returns
returns c = (
  λ t. sym c.bits.ensures.again ∙ ap pointer_of (eqb-true c.bits.result c.bits-2.result t) ∙ c.bits-2.ensures.again,
  λ e. eq-eqb c.bits.result c.bits-2.result (c.bits.ensures.bits ∙ ap bits_of e ∙ sym c.bits-2.ensures.bits),
)
