use Rattle.std.proofs.Common.{sym, ap, subst, ◌∙◌, arith}
use Rattle.mm_model.specs.{Slot.Slot, Spelling.Begins, Typed.IsTypedSlot}
use Rattle.mm_model.proofs.Bytes.{CleanRecords.handler_is_other, SpelledSlots.handler_good}
use Rattle.mm_image.proofs.fits.is_fresh.Goals.{then-slot-limit-via-then-slot-limit}
use Rattle.mm_image.proofs.fits.is_fresh.Goals.{then-slot-limit-via-else-slot-limit+then-slot-limit-2}
use Rattle.mm_image.proofs.fits.is_fresh.Goals.{then-slot-limit-via-else-slot-limit+else-slot-limit-2+then-is_bad_handler}
use Rattle.mm_image.proofs.fits.is_fresh.Goals as goal

pub returns-then-slot-limit : goal.returns-then-slot-limit
returns-then-slot-limit c = λ slots holds.
    let number = ap (λ (s : Slot). s.number) c.slot.view_is in
    let group = ap (λ (s : Slot). s.group) c.slot.view_is in (
      λ f. absurd cc,
      λ fresh. elim c.then-slot-limit.branch [
        | then-slot-limit-via-then-slot-limit w ↦ absurd (omega (arith, number, fresh.number, w.if-slot-limit.true))
        | then-slot-limit-via-else-slot-limit+then-slot-limit-2 w ↦ absurd (omega (arith, group, fresh.group, w.if-slot-limit-2.true))
        | then-slot-limit-via-else-slot-limit+else-slot-limit-2+then-is_bad_handler w ↦
            let good = handler_good slots c.args.slot.now.number c.args.slot.now.handler fresh.handler in
            let wrong = w.is_bad_handler.ensures slots holds in
            let bad = w.if-is_bad_handler.true in
            absurd (cc (good, wrong, bad))
      ],
    )

pub returns-then-begins : goal.returns-then-begins
returns-then-begins c = λ slots holds.
    let s = c.args.slot.now in
    let number = ap (λ (s : Slot). s.number) c.slot.view_is in
    let group = ap (λ (s : Slot). s.group) c.slot.view_is in
    let state = ap (λ (s : Slot). s.state) c.slot.view_is in
    let kept = subst IsTypedSlot c.slot.view_is c.slot.invariant in
    let good = sym (c.is_bad_handler.ensures slots holds) ∙ c.if-is_bad_handler.false in
    let starts = c.begins.ensures.0 c.if-begins.true in (
      λ t.
          let rest = c.has_not_run.ensures.0 t in
          record {
            number = omega (arith, number, c.if-slot-limit.false);
            group = omega (arith, group, c.if-slot-limit-2.false);
            handler = handler_is_other slots s.number s.handler good;
            begins = subst Begins state starts;
            executable = kept.executable;
            ip = kept.well_formed;
            registers = kept.registers;
            words = kept.words;
            past = rest.past;
            turns = rest.turns;
            empty = rest.empty;
            pending = rest.pending;
          },
      λ fresh. c.has_not_run.ensures.1 (record { past = fresh.past; turns = fresh.turns; empty = fresh.empty; pending = fresh.pending }),
    )
