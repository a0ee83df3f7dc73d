use Rattle.mm_text.proofs.Appending.{appends_then, appends_same}
use Rattle.mm_thread.specs.Told.{told_in}
use Rattle.mm_machine.specs.Machine.{state_of}
use Rattle.mm_log.proofs.Told.{seen_text}
use Rattle.mm_log.proofs.after.put_seen.Goals as goal

pub returns : goal.returns
returns g c =
    appends_same
    (appends_then (appends_then (appends_then (appends_then c.put_slots.ensures c.put_queued.ensures) c.put_read.ensures) c.put_out.ensures) c.put_memory.ensures)
    (seen_text (state_of c.args.machine.now) (told_in c.args.kept.now) c.args.tick)
