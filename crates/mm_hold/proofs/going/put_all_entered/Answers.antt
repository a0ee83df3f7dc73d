use Rattle.std.proofs.Common.{arith}
use Rattle.mm_word.specs.Pointer.{Pointer, enter_result}
use Rattle.mm_hold.specs.Deeds.{entered_by}
use Rattle.mm_hold.proofs.Listing.{put_more, put_all}
use Rattle.mm_hold.proofs.going.put_all_entered.Goals as goal

pub loop-k-preserved : goal.loop-k-preserved
loop-k-preserved c =
    let l = c.loop-k in
    put_more (λ (d : Pointer). entered_by c.args.kernel.now.image c.args.kernel.now.kept d (enter_result d)) c.args.deeds.now.items c.args.tables.now.doors l.k l.deeds.items c.put_entered.new.deeds.items c.door-door.result c.door-door.ensures l.invariant c.in_ok-put_entered.ensures

pub returns : goal.returns
returns c =
    let l = c.loop-k in
    let test = c.loop-k-test.false in
    let end = c.doors-k-end.ensures in
    put_all (λ (d : Pointer). entered_by c.args.kernel.now.image c.args.kernel.now.kept d (enter_result d)) c.args.deeds.now.items c.args.tables.now.doors l.k l.deeds.items (omega (arith, test, end)) l.invariant
