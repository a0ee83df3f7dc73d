use Rattle.std.proofs.{Common.subst, Math.Nat.le_antisymm}
use Rattle.mm_audit.{specs.Meeting.AreNoRows, proofs.EmptyRows.empty_more}
use Rattle.mm_audit.proofs.least_shared.no_rows.Goals as goal

pub loop-preserved : goal.loop-preserved
loop-preserved c =
    empty_more c.loop.counter c.loop.table.items c.push.new.self.items c.none.result c.loop.invariant c.none.ensures c.in_ok-push.ensures.items

pub returns : goal.returns
returns c = subst (λ top. AreNoRows top c.loop.table.items) (le_antisymm c.loop.auto.counter-end c.loop-test.false) c.loop.invariant
