use Rattle.mm_flow.proofs.Bits.{bit_set, bit_clear}
use Rattle.mm_audit.proofs.Meetings.{note_skip, note_more}
use Rattle.mm_audit.proofs.least_shared.note_all.Goals.{then-now-h-eq1, else-now-h-eq1}
use Rattle.mm_audit.proofs.least_shared.note_all.Goals as goal

pub loop-h-preserved : goal.loop-h-preserved
loop-h-preserved c =
    elim c.if-now-h-eq1.branch [
      | then-now-h-eq1 w ↦ rw w.table-is (note_more c.args.now.write c.args.now.touch c.args.word c.loop-h.h
          c.args.table.now c.loop-h.table c.loop-h.invariant _ c.loop-h-test.true (bit_set _ _ w.if-now-h-eq1.true)
          w.note.ensures)
      | else-now-h-eq1 w ↦ rw w.table-is (note_skip c.args.now.write c.args.now.touch c.args.word c.loop-h.h c.args.table.now c.loop-h.table c.loop-h.invariant (bit_clear _ _ w.if-now-h-eq1.false))
    ]
