use Rattle.std.proofs.{Common.arith, lemmas.Grind.common_steps}
use Rattle.mm_net.proofs.wire.access.Goals as goal

pub returns : goal.returns
returns c = grind (arith, common_steps)
