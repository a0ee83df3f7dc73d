use Rattle.std.proofs.Common.{◌+◌, [], take, sym, ap, ◌∙◌, subst, arith}
use Rattle.std.{proofs.lemmas.List.{take_all, flat_map_more}, specs.List.flat_map}
use Rattle.mm_hold.specs.{Conducts.Notes, Deeds.thread_deeds}
use Rattle.mm_hold.proofs.{Noted.{notes_none, notes_more}, Sets.take_got}
use Rattle.mm_hold.proofs.conduct.note_threads.Goals as goal

pub loop-k-init : goal.loop-k-init
loop-k-init c = record { notes = notes_none c.args.conduct.now; empty = c.new-deeds.ensures.items }

pub loop-k-preserved : goal.loop-k-preserved
loop-k-preserved c =
    let l = c.loop-k in
    let f = thread_deeds c.args.kernel.now.image c.args.kernel.now.kept (record { tables = c.args.tables.now; first = c.args.first.now; carrying = c.args.carrying.now }) in
    let ts = c.args.tables.now.threads in
    let t = c.thread-t.result in
    let more = flat_map_more f [] (take l.k ts) t ∙ ap (flat_map f) (sym (take_got ts l.k t c.thread-t.ensures)) in
    record {
      notes = notes_more (flat_map f (take l.k ts)) (f t) (flat_map f (take (l.k + 1) ts)) c.args.conduct.now l.conduct c.note_thread.new.conduct (sym more) l.invariant.notes
          c.in_ok-note_thread.ensures.notes;
      empty = c.in_ok-note_thread.ensures.empty;
    }

pub returns : goal.returns
returns c =
    let f = thread_deeds c.args.kernel.now.image c.args.kernel.now.kept (record { tables = c.args.tables.now; first = c.args.first.now; carrying = c.args.carrying.now }) in
    let ts = c.args.tables.now.threads in
    let test = c.loop-k-test.false in
    let end = c.threads-k-end.ensures.count in
    subst (λ l. Notes (flat_map f l) c.args.conduct.now c.loop-k.conduct) (take_all c.loop-k.k ts (omega (arith, test, end))) c.loop-k.invariant.notes
