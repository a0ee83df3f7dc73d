use Rattle.std.proofs.{Common.arith, lemmas.Grind.common_steps}
use Rattle.mm_keep_text.proofs.finding.origins.Goals as goal

pub loop-door-preserved : goal.loop-door-preserved
loop-door-preserved c = grind (arith, common_steps)
