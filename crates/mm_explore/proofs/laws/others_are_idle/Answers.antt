use Rattle.mm_explore.proofs.Movings.{others_are_idle}
use Rattle.mm_explore.proofs.laws.others_are_idle.Goals as goal

pub returns : goal.returns
returns c = others_are_idle
