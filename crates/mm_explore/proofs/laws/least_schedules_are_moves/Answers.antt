use Rattle.mm_explore.proofs.Leasts.{least_schedules_are_moves}
use Rattle.mm_explore.proofs.laws.least_schedules_are_moves.Goals as goal

pub returns : goal.returns
returns c = least_schedules_are_moves
