use Rattle.mm_audit.proofs.{Bits.set_bit, Rows.rows_more}
use Rattle.mm_audit.proofs.writers.writer.Goals.{then-inside-h-eq0+in_default, else-inside-h-eq0}
use Rattle.mm_audit.proofs.writers.writer.Goals as goal

pub loop-h-preserved : goal.loop-h-preserved
loop-h-preserved c =
    elim c.if-inside-h-eq0.branch [
      | then-inside-h-eq0+in_default w ↦ rows_more c.args.table.now c.args.inside c.loop-h.h c.loop-h.invariant (λ out. w.in_default.ensures)
      | else-inside-h-eq0 w ↦ rows_more c.args.table.now c.args.inside c.loop-h.h c.loop-h.invariant (λ out. absurd (out (set_bit _ _ w.if-inside-h-eq0.false)))
    ]
