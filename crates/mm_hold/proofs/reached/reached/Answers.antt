use Rattle.std.proofs.Common.{◌+◌, sym, subst, arith}
use Rattle.mm_hold.specs.Holdings.{AreReached}
use Rattle.mm_hold.proofs.Groups.{reached_none, reached_more}
use Rattle.mm_hold.proofs.reached.reached.Goals as goal

pub loop-node-init : goal.loop-node-init
loop-node-init c = subst (AreReached _ _ 0) (sym c.new-reached.ensures.items) (reached_none _ _)

pub loop-node-preserved : goal.loop-node-preserved
loop-node-preserved c =
    let l = c.loop-node in
    subst (AreReached c.args.slots.now c.args.marks.now (l.node + 1)) (sym c.in_ok-push.ensures.items)
    (reached_more c.args.slots.now c.args.marks.now l.node l.reached.items c.at-here.result c.groups_of-groups.result l.invariant c.at-here.ensures c.groups_of-groups.ensures)

pub returns : goal.returns
returns c =
    let l = c.loop-node in
    let len = c.len-node-end.ensures in
    let test = c.loop-node-test.false in
    subst (λ n. AreReached c.args.slots.now c.args.marks.now n l.reached.items) (omega arith) l.invariant
