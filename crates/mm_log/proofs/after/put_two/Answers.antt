use Rattle.mm_text.proofs.Appending.{appends_then, appends_same}
use Rattle.mm_machine.specs.Machine.{state_of}
use Rattle.mm_log.{specs.Seen.seen_of, proofs.Told.order_text}
use Rattle.mm_log.proofs.after.put_two.Goals as goal

pub returns : goal.returns
returns g c =
    let core = (state_of c.args.machine.now).core in
    appends_same (appends_then (appends_then c.put_own_before.ensures c.put_own.ensures) c.put_own_behind.ensures)
    (order_text c.args.own.now.number c.args.other.now.number (seen_of core c.args.own.now) (seen_of core c.args.other.now))
