use Rattle.mm_hold.proofs.Meeting.{meets_are}
use Rattle.mm_hold.proofs.meets.meets_of.Goals as goal

pub returns : goal.returns
returns c =
    meets_are c.args.parents.now c.args.nodes.now c.args.marks.now c.in_ok-stores.stores c.in_ok-loads.loads c.none-meets.result c.share_at_nodes.new.sharing c.in_ok-stores.ensures c.in_ok-loads.ensures
    c.none-meets.ensures c.share_at_nodes.ensures
