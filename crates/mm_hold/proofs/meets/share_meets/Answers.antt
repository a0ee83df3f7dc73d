use Rattle.std.proofs.Common.{◌≡◌, subst, arith}
use Rattle.mm_hold.specs.{Marks.PassesBelow, Parties.Adds}
use Rattle.mm_hold.proofs.{Meeting.{rows_none, rows_more, rows_all}, PartySets.row_small}
use Rattle.mm_hold.proofs.meets.share_meets.Goals as goal

pub loop-n-init : goal.loop-n-init
loop-n-init c = rows_none c.args.meets.now c.args.senders c.args.sharing.now

pub loop-n-preserved : goal.loop-n-preserved
loop-n-preserved c =
    rows_more c.args.meets.now c.args.senders c.loop-n.n c.args.sharing.now c.loop-n.sharing c.share_row.new.sharing c.loop-n.invariant c.share_row.ensures

pub returns : goal.returns
returns c =
    let m = c.args.meets.now in
    let same : c.loop-n.n ≡ 64 = omega arith in
    rows_all m c.args.senders c.args.sharing.now c.loop-n.sharing (row_small m (omega arith) (omega arith) (omega arith) (omega arith))
    (subst (λ n. Adds (PassesBelow m c.args.senders n) c.args.sharing.now c.loop-n.sharing) same c.loop-n.invariant)
