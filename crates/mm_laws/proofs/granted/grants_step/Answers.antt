use Rattle.mm_laws.proofs.GrantedTurns.{step_granted}
use Rattle.mm_laws.proofs.granted.grants_step.Goals as goal

pub returns : goal.returns
returns c = step_granted
