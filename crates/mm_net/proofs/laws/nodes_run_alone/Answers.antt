use Rattle.mm_net.proofs.OwnRuns.{runs_alone}
use Rattle.mm_net.proofs.laws.nodes_run_alone.Goals as goal

pub returns : goal.returns
returns c = runs_alone
