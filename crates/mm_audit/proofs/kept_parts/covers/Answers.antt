use Rattle.mm_audit.proofs.Touches.{covers_is}
use Rattle.mm_audit.proofs.kept_parts.covers.Goals as goal

pub returns : goal.returns
returns c = covers_is c.args.set.now c.args.word c.covers.result c.covers.ensures
