use Rattle.std.proofs.Common.{ap, ◌∙◌}
use Rattle.mm_word.specs.{Word.word_bits, Pointer.restrict_result}
use Rattle.mm_model.specs.{Slot.register, Effect.effect}
use Rattle.mm_thread.proofs.Pointers.{through_pointer}
use Rattle.mm_thread.proofs.local_ops.restrict_to.Goals as goal

pub returns-in-Ok : goal.returns-in-Ok
unfolding effect
returns-in-Ok c = λ split.
    through_pointer _ _ _ _ c.in-Ok.p _ (λ q. restrict_result q (word_bits (register c.args.slot.now c.args.rb))) _ c.in-Ok.ensures
    (c.restrict.ensures.value ∙ ap (restrict_result c.in-Ok.p) (c.bits-code.ensures.value ∙ ap word_bits c.word_of.ensures)) c.sets_pointer.ensures
