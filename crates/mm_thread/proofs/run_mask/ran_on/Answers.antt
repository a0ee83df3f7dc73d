use Rattle.std.proofs.Common.{refl, sym, ap, ◌∙◌}
use Rattle.mm_model.specs.Flags.{one_if}
use Rattle.mm_thread.proofs.run_mask.ran_on.Goals as goal

pub returns : goal.returns
returns c = record {
  here = c.requires.ran ∙ sym (ap one_if c.requires.runs);
  others = λ n low other. refl;
}
