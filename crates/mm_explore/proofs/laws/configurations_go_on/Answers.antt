use Rattle.mm_explore.proofs.Goings.{configurations_go_on}
use Rattle.mm_explore.proofs.laws.configurations_go_on.Goals as goal

pub returns : goal.returns
returns c = configurations_go_on
