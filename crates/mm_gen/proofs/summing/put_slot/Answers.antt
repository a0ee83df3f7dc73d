use Rattle.mm_text.proofs.Appending.{appends_then, appends_same}
use Rattle.mm_gen.proofs.SlotTexts.{summary_text}
use Rattle.mm_gen.proofs.summing.put_slot.Goals as goal

pub returns : goal.returns
returns g c =
    appends_same
    (appends_then
    (appends_then (appends_then (appends_then (appends_then (appends_then c.put_numbers.ensures c.put_state.ensures)
    c.put_piece.ensures) c.put_piece-2.ensures) c.put_piece-3.ensures) c.put_word.ensures)
    c.put_piece-4.ensures)
    (summary_text c.args.m.now.core _ c.args.slot.now c.output.result.now c.register.result c.slot.view_is c.output.ensures.bytes c.register.ensures)
