use Rattle.mm_text.proofs.Appending.{appends_then, appends_same}
use Rattle.mm_log.proofs.Told.{slot_text}
use Rattle.mm_log.proofs.slots.put_slot_left.Goals as goal

pub returns : goal.returns
returns g c = appends_same (appends_then c.put_front_left.ensures c.put_load_changes.ensures) (slot_text c.args.was.now c.args.now.now)
