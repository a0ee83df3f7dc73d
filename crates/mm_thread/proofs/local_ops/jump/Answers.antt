use Rattle.std.proofs.Common.{Ok, refl, sym, ap, ◌∙◌}
use Rattle.mm_model.specs.{Effect.plain, Turn.slot_after}
use Rattle.mm_thread.proofs.local_ops.jump.Goals as goal

pub returns-in-Some : goal.returns-in-Some
unfolding plain slot_after
returns-in-Some c = rw (sym c.entered.ensures.pointer ∙ c.in-Some.is) (record { alone = refl; slot = c.go_to.ensures; ended = ap Ok c.entry_of.ensures })
