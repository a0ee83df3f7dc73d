use Rattle.std.proofs.Common.{◌+◌, sym, subst}
use Rattle.mm_hold.specs.Parties.{Is, SharedBy}
use Rattle.mm_hold.proofs.Meeting.{SharedSoFar, shared_none, so_far_none, so_far_more}
use Rattle.mm_hold.proofs.giving.give_shared.Goals as goal

pub loop-node-init : goal.loop-node-init
loop-node-init c = record {
  so_far = so_far_none c.args.sharing.now c.args.marks.now;
  next = shared_none c.args.sharing.now c.none-last.result c.none-shared.result c.none-last.ensures c.none-shared.ensures;
}

pub loop-node-preserved : goal.loop-node-preserved
loop-node-preserved c =
    let l = c.loop-node in
    let n = l.node in
    let s = c.args.sharing.now in
    let set = c.shared_next-shared.result in
    record {
      so_far = subst (λ b. SharedSoFar (n + 1) s c.args.marks.now c.give-given.new.self b) (sym c.either-changed.ensures)
          (so_far_more n s c.args.marks.now l.marks c.give-given.new.self set c.give-given.result l.changed l.invariant.so_far
          (subst (λ p. Is set (SharedBy s p)) c.at-now.ensures c.shared_next-shared.ensures) c.give-given.ensures);
      next = c.shared_next-shared.ensures;
    }
