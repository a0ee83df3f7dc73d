use Rattle.mm_sweep.proofs.SweptGrants.{revokes}
use Rattle.mm_sweep.proofs.laws.sweeping_revokes.Goals as goal

pub returns : goal.returns
returns c = revokes c.grants_grow.ensures.most
