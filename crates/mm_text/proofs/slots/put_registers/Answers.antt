use Rattle.std.proofs.{Common.{◌≡◌, ◌<◌, get_or, ap, arith}, lemmas.List.{take_all, FromFn.get_or-range_with_len}}
use Rattle.std.specs.List.{flat_map, range_with_len}
use Rattle.mm_model.specs.Lines.{register_line}
use Rattle.mm_text.proofs.Appending.{appends_item, appends_same}
use Rattle.mm_text.proofs.slots.put_registers.Goals as goal

pub loop-number-preserved : goal.loop-number-preserved
loop-number-preserved g c =
    let n = c.loop-number.number in
    let inside : n < 16 = omega arith in
    let same : n ≡ get_or (range_with_len 0 16) n n = omega (arith, get_or-range_with_len 0 16 n n inside) in
    appends_item (register_line c.args.slot.now) (range_with_len 0 16) n n inside same c.loop-number.invariant c.put_register.ensures

pub returns : goal.returns
returns g c =
    appends_same c.loop-number.invariant
    (ap (flat_map (register_line c.args.slot.now)) (take_all c.loop-number.number (range_with_len 0 16) (omega arith)))
