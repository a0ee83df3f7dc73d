use Rattle.std.proofs.Common.{ap}
use Rattle.mm_word.specs.declared.word.Word.TheVariants.{Ptr}
use Rattle.mm_model.specs.Slot.{Slot}
use Rattle.mm_text.proofs.Appending.{appends_then, appends_same}
use Rattle.mm_sweep.specs.Holders.{holder_line, ip_place}
use Rattle.mm_sweep.proofs.holding.put_slot.Goals as goal

pub returns : goal.returns
returns g c =
    appends_then (appends_same c.put_holder.ensures (ap (λ (s : Slot). holder_line c.args.range.now (ip_place s.number) (Ptr s.ip)) c.slot.view_is)) c.put_registers.ensures
