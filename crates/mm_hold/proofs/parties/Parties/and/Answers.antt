use Rattle.mm_hold.proofs.PartySets.{both_are}
use Rattle.mm_hold.proofs.parties.Parties.and.Goals as goal

pub returns : goal.returns
returns c = both_are c.args.self c.args.other
