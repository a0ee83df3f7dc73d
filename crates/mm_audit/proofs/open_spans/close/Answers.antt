use Rattle.std.proofs.{Common.arith, lemmas.Grind.common_steps}
use Rattle.mm_audit.proofs.open_spans.close.Goals as goal

pub loop-stack-preserved : goal.loop-stack-preserved
loop-stack-preserved c = grind (arith, common_steps)
