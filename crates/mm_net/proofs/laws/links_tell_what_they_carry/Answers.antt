use Rattle.mm_net.proofs.Telling.{run_tells}
use Rattle.mm_net.proofs.laws.links_tell_what_they_carry.Goals as goal

pub returns : goal.returns
returns c = run_tells
