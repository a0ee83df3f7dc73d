use Rattle.std.proofs.Common.{arith}
use Rattle.mm_model.specs.Fits.{slots_of}
use Rattle.mm_explore.{specs.MoveLists.running_item, proofs.Readings.{some_items, all_some}}
use Rattle.mm_explore.proofs.search.put_running.Goals as goal

pub loop-at-preserved : goal.loop-at-preserved
loop-at-preserved c =
    some_items running_item c.args.out.now.items c.loop-at.out.items c.put_if_running.new.out.items (slots_of c.args.core.now) c.loop-at.at
    c.nth.result.now c.loop-at.invariant c.nth.ensures c.in_ok-put_if_running.ensures

pub returns : goal.returns
returns c =
    let low = c.count-at-end.ensures in
    let end = c.loop-at-test.false in
    all_some running_item c.args.out.now.items c.loop-at.out.items (slots_of c.args.core.now) c.loop-at.at c.loop-at.invariant (omega (arith, low, end))
