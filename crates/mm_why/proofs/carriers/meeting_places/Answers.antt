use Rattle.std.proofs.Common.{◌≡◌, length, rules}
use Rattle.mm_why.proofs.Carrying.{pair_end}
use Rattle.mm_why.proofs.carriers.meeting_places.Goals as goal

pub loop-k-preserved : goal.loop-k-preserved
loop-k-preserved c =
    let one = rw c.deref.ensures.value at c.pair_at-best.ensures in
    (rw c.deref-in-loop-k.ensures.value at one) c.loop-k.invariant

pub returns : goal.returns
returns c =
    let e : c.loop-k.k ≡ length c.args.graph.now.nodes.items = search rules in
    pair_end c.args.graph.now c.args.giver.now c.args.taker.now c.in_ok-stores.stores.items c.in_ok-loads.loads.items c.loop-k.k e
    c.in_ok-stores.ensures.len c.in_ok-loads.ensures.len c.in_ok-stores.ensures.nearest c.in_ok-loads.ensures.nearest c.loop-k.best c.loop-k.invariant
