use Rattle.mm_top.proofs.Joined.{unused_at_start}
use Rattle.mm_top.proofs.boot.boot.Goals as goal

pub returns-clause-unused : goal.returns-clause-unused
returns-clause-unused g c = unused_at_start c.args.image.now c.new-2.result c.new-2.ensures.state c.new-2.ensures.no_port
