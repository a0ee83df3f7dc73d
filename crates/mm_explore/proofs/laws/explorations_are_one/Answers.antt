use Rattle.mm_explore.proofs.Ones.{explorations_are_one}
use Rattle.mm_explore.proofs.laws.explorations_are_one.Goals as goal

pub returns : goal.returns
returns c = explorations_are_one
