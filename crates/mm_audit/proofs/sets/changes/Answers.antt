use Rattle.mm_audit.proofs.Collecting.{same_more}
use Rattle.mm_audit.proofs.sets.changes.Goals as goal

pub loop-span-preserved : goal.loop-span-preserved
loop-span-preserved c = same_more c.args.spans.now c.args.how c.loop-span.all c.mask-mask.result c.loop-span.span-index c.loop-span.invariant c.mask-mask.ensures
