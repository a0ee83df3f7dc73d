use Rattle.std.proofs.{Common.arith, lemmas.List.FromFn.map-range_with_len_more}
use Rattle.mm_gen.specs.Generated.{slot_at}
use Rattle.mm_gen.proofs.slots.slots.Goals as goal

pub loop-number-preserved : goal.loop-number-preserved
loop-number-preserved c =
    let more = map-range_with_len_more slot_at 0 c.loop-number.number c.loop-number.number (omega arith) in
    cc (more, c.in_ok-push.ensures.items, c.slot.ensures)
