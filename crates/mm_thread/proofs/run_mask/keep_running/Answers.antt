use Rattle.std.proofs.Common.{refl, sym, ap, ◌∙◌}
use Rattle.mm_model.specs.Flags.{one_if}
use Rattle.mm_thread.proofs.run_mask.keep_running.Goals as goal

pub returns-then-is_running : goal.returns-then-is_running
returns-then-is_running c = record {
  here = c.requires.ran ∙ sym (ap one_if (sym c.is_running.ensures ∙ c.if-is_running.true));
  others = λ n low other. refl;
}
