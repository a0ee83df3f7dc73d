use Rattle.mm_laws.proofs.GrantedRuns.{runs_granted}
use Rattle.mm_laws.proofs.granted.grants_hold.Goals as goal

pub returns : goal.returns
returns c = runs_granted
