use Rattle.mm_why.proofs.Rounding.{handing_more}
use Rattle.mm_why.proofs.rounds.handing.Goals as goal

pub loop-h-preserved : goal.loop-h-preserved
loop-h-preserved c =
    handing_more c.args.links.now c.args.meets.now c.args.now.now c.loop-h.h c.loop-h.edges c.share.new.sharing c.shared_by-takers.result c.loop-h-test.true
    c.loop-h.invariant c.shared_by-takers.ensures c.share.ensures
