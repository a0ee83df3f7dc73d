use Rattle.std.proofs.Common.{◌+◌, sym, subst}
use Rattle.mm_flow.proofs.Bits.{bit_set, bit_clear}
use Rattle.mm_audit.proofs.Rows.{Best, best_skip, best_more}
use Rattle.mm_audit.proofs.writers.least_with.Goals.{then-shared-g-eq1, else-shared-g-eq1}
use Rattle.mm_audit.proofs.writers.least_with.Goals as goal

pub loop-g-preserved : goal.loop-g-preserved
loop-g-preserved c =
    elim c.if-shared-g-eq1.branch [
      | then-shared-g-eq1 w ↦ subst (Best c.args.row.now c.args.inside c.loop-g.g (c.loop-g.g + 1)) (sym w.best-is)
          (best_more c.args.row.now c.args.inside c.loop-g.g w.lesser.result (bit_set _ _ w.if-shared-g-eq1.true) c.loop-g.best c.loop-g.invariant w.lesser.ensures)
      | else-shared-g-eq1 w ↦ subst (Best c.args.row.now c.args.inside c.loop-g.g (c.loop-g.g + 1)) (sym w.best-is)
          (best_skip c.args.row.now c.args.inside c.loop-g.g (bit_clear _ _ w.if-shared-g-eq1.false) c.loop-g.best c.loop-g.invariant)
    ]
