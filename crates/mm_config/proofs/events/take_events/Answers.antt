use Rattle.std.proofs.Common.{◌<◌, ◌++◌, ap, sym, ◌∙◌, subst, length, arith}
use Rattle.std.proofs.lemmas.List.{append-nil}
use Rattle.mm_config.{specs.Forms.queue_from, proofs.EventForms.{events_more, queue_ends, fewer}}
use Rattle.mm_config.proofs.events.take_events.Goals as goal

pub loop-reader-preserved : goal.loop-reader-preserved
loop-reader-preserved c =
    let at = c.loop-reader in
    let count = c.len.ensures in
    let enough = c.loop-reader-test.true in
    events_more at.reader c.take_event-slot.new.reader (queue_from c.args.reader.now) c.args.events.now.items at.events.items c.push.new.self.items
    c.take_event-slot.result (omega (arith, count, enough)) c.take_event-slot.ensures.event c.take_event-slot.ensures.rest c.in_ok-push.ensures.items at.invariant

pub loop-reader-smaller : goal.loop-reader-smaller
loop-reader-smaller c =
    let at = c.loop-reader in
    let count = c.len.ensures in
    let enough = c.loop-reader-test.true in
    subst (λ l. length l < length at.reader) (sym c.take_event-slot.ensures.rest) (fewer at.reader (omega (arith, count, enough)))

pub returns : goal.returns
returns c =
    let at = c.loop-reader in
    let count = c.len.ensures in
    let few = c.loop-reader-test.false in
    sym (append-nil at.events.items) ∙ ap (λ l. at.events.items ++ l) (sym (queue_ends at.reader (omega (arith, count, few)))) ∙ at.invariant
