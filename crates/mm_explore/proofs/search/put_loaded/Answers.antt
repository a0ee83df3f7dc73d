use Rattle.std.proofs.{Common.{◌<◌, ap, arith}, lemmas.Option.get_or_from_slice_get}
use Rattle.mm_model.{specs.{Fits.slots_of, Slot.Slot}, proofs.CoreRows.each_get}
use Rattle.mm_thread.proofs.RowIndex.{small_numbers}
use Rattle.mm_explore.{specs.MoveLists.loaded_item, proofs.Readings.{some_items, all_some}}
use Rattle.mm_explore.proofs.search.put_loaded.Goals as goal

pub loop-at-preserved : goal.loop-at-preserved
loop-at-preserved c =
    some_items loaded_item c.args.out.now.items c.loop-at.out.items c.put_if_loaded.new.out.items (slots_of c.args.core.now) c.loop-at.at
    c.nth.result.now c.loop-at.invariant c.nth.ensures c.in_ok-put_if_loaded.ensures

pub returns : goal.returns
returns c =
    let low = c.count-at-end.ensures in
    let end = c.loop-at-test.false in
    all_some loaded_item c.args.out.now.items c.loop-at.out.items (slots_of c.args.core.now) c.loop-at.at c.loop-at.invariant (omega (arith, low, end))

pub put_if_loaded-requires : goal.put_if_loaded-requires
put_if_loaded-requires c =
    let number = each_get (λ (s : Slot). s.number < 64) (slots_of c.args.core.now) c.loop-at.at c.nth.result.now (small_numbers c.args.core.now c.known.ensures) (omega arith) in
    let is = get_or_from_slice_get (slots_of c.args.core.now) c.loop-at.at c.nth.result.now c.nth.result.now c.nth.ensures in
    omega (arith, number, ap (λ (s : Slot). s.number) is)
