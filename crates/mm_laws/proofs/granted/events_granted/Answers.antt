use Rattle.mm_laws.proofs.GrantedRuns.{events_granted}
use Rattle.mm_laws.proofs.granted.events_granted.Goals as goal

pub returns : goal.returns
returns c = events_granted
