use Rattle.std.proofs.Common.{ap}
use Rattle.mm_model.specs.Lines.{slot_line}
use Rattle.mm_text.proofs.Appending.{appends_then, appends_same}
use Rattle.mm_text.proofs.slots.put_slot_line.Goals as goal

pub returns : goal.returns
returns g c =
    appends_same
    (appends_then (appends_then (appends_then (appends_then c.put_numbers.ensures c.put_state.ensures) c.put_piece.ensures) c.put_word.ensures) c.put_end.ensures)
    (ap slot_line c.slot.view_is)
