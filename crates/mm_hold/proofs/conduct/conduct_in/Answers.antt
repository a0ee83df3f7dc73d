use Rattle.std.specs.List.{flat_map}
use Rattle.mm_hold.specs.Deeds.{Findings, begin_deeds, thread_deeds}
use Rattle.mm_hold.proofs.Noted.{notes_join}
use Rattle.mm_hold.proofs.conduct.conduct_in.Goals as goal

pub returns : goal.returns
returns c =
    let i = c.args.kernel.now.image in
    let kept = c.args.kernel.now.kept in
    let f : Findings = record { tables = c.args.tables.now; first = c.args.first.now; carrying = c.args.carrying.now } in
    record {
      none = c.none-conduct.result;
      is_none = c.none-conduct.ensures;
      notes = notes_join (begin_deeds i kept f.tables.doors) (flat_map (thread_deeds i kept f) f.tables.threads) c.none-conduct.result c.note_begins.new.conduct c.note_threads.new.conduct
          c.in_ok-note_begins.ensures c.in_ok-note_threads.ensures;
    }
