use Rattle.std.proofs.{Common.arith, lemmas.Grind.common_steps}
use Rattle.mm_sched.proofs.runs.run_start.Goals as goal

pub loop-at-preserved : goal.loop-at-preserved
loop-at-preserved c = grind (arith, common_steps)
