use Rattle.std.proofs.Common.{sym, ap, ◌∙◌, arith}
use Rattle.mm_model.specs.{Fits.identity_of}
use Rattle.mm_thread.proofs.Revised.{same_at, put_long, put_here, put_one, put_none, put_all}
use Rattle.mm_thread.proofs.restore.put_changed.Goals.{then-changed-at-eq1, else-changed-at-eq1}
use Rattle.mm_thread.proofs.restore.put_changed.Goals as goal

pub put_slot-requires-clause-at : goal.put_slot-requires-clause-at
put_slot-requires-clause-at c =
    let l = c.loop-at in
    omega (arith, put_long c.args.tables.now c.args.changed c.args.slots.now c.requires.same l.tables l.at l.invariant)

pub put_slot-requires-clause-same : goal.put_slot-requires-clause-same
put_slot-requires-clause-same c =
    let l = c.loop-at in
    same_at c.args.slots.now c.args.tables.now c.requires.same l.at c.index-slots-at.result (omega arith) c.index-slots-at.is
    ∙ ap identity_of (sym (put_here c.args.tables.now c.args.changed c.args.slots.now c.requires.same l.tables l.at l.invariant))

pub loop-at-preserved : goal.loop-at-preserved
loop-at-preserved c =
    let l = c.loop-at in
    elim c.if-changed-at-eq1.branch [
      | then-changed-at-eq1 w ↦ w.tables-is ∙ put_one c.args.tables.now c.args.changed c.args.slots.now c.requires.same l.tables l.at l.invariant (omega arith) w.if-changed-at-eq1.true w.index-slots-at.result w.index-slots-at.is w.put_slot.new.self w.put_slot.ensures
      | else-changed-at-eq1 w ↦ w.tables-is ∙ put_none c.args.tables.now c.args.changed c.args.slots.now c.requires.same l.tables l.at l.invariant (omega arith) w.if-changed-at-eq1.false
    ]

pub returns : goal.returns
returns c =
    let l = c.loop-at in
    put_all c.args.tables.now c.args.changed c.args.slots.now c.requires.same l.tables l.at l.invariant (omega arith)
