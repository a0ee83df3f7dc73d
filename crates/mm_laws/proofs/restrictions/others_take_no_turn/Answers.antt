use Rattle.mm_laws.proofs.Restricting.{others_rest}
use Rattle.mm_laws.proofs.restrictions.others_take_no_turn.Goals as goal

pub returns : goal.returns
returns c = others_rest
