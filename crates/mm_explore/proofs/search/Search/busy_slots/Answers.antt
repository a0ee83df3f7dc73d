use Rattle.std.proofs.Common.{arith}
use Rattle.mm_explore.proofs.{BusySets.{nodes, few, children_few, sets_busy, none_seen}, Steps.searched}
use Rattle.mm_explore.proofs.search.Search.busy_slots.Goals as goal

pub closed_sets-requires-clause-nodes : goal.closed_sets-requires-clause-nodes
closed_sets-requires-clause-nodes c = nodes c.args.img.now c.args.self.now c.requires.come c.requires.all

pub closed_sets-requires-clause-count : goal.closed_sets-requires-clause-count
closed_sets-requires-clause-count c = few c.args.img.now c.args.self.now c.requires.come c.requires.all

pub closed_sets-requires-clause-few : goal.closed_sets-requires-clause-few
closed_sets-requires-clause-few c = children_few c.args.img.now c.args.self.now c.requires.come c.requires.all

pub loop-at-init : goal.loop-at-init
loop-at-init c = none_seen c.args.img.now c.args.self.now.found c.new-busy.result.entries c.new-busy.ensures.empty

pub returns : goal.returns
returns c =
    let i = c.args.img.now in
    let s = c.args.self.now in
    let all = (searched i c.requires.come.image s c.requires.come).1 c.requires.all in
    let low = c.loop-at.auto.at-end in
    let high = c.loop-at-test.false in
    let end = c.len-at-end.ensures in
    sets_busy i s.found all c.loop-at.at (omega (arith, low, high, end)) c.loop-at.busy.entries c.loop-at.invariant
