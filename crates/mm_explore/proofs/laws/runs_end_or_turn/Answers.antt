use Rattle.mm_explore.proofs.laws.runs_end_or_turn.Goals as goal
use Rattle.mm_explore.proofs.Turning as law

pub returns : goal.returns
returns c = law.runs_end_or_turn
