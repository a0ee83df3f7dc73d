use Rattle.std.proofs.Common.{◌∙◌, sym}
use Rattle.mm_model.specs.Groups.{among}
use Rattle.mm_audit.proofs.Crossings.{mask_more, mask_skip}
use Rattle.mm_audit.proofs.apart_groups.mask_of.Goals.{then-is_inside, else-is_inside}
use Rattle.mm_audit.proofs.apart_groups.mask_of.Goals as goal

pub loop-g-preserved : goal.loop-g-preserved
loop-g-preserved c = elim c.if-is_inside.branch [
  | then-is_inside w ↦ rw w.mask-is (mask_more c.loop-g.mask c.loop-g.g (among c.args.groups.now) c.loop-g-test.true (sym c.is_inside.ensures ∙ w.if-is_inside.true) c.loop-g.invariant)
  | else-is_inside w ↦ rw w.mask-is (mask_skip c.loop-g.mask c.loop-g.g (among c.args.groups.now) (sym c.is_inside.ensures ∙ w.if-is_inside.false) c.loop-g.invariant)
]
