use Rattle.std.proofs.Common.{sym, subst}
use Rattle.mm_word.specs.Perm.{can_load}
use Rattle.mm_model.specs.Audit.{MaximalSegments}
use Rattle.mm_audit.specs.Audits.{Audits}
use Rattle.mm_audit.proofs.reach.Reach.touch_set.Goals as goal

pub returns : goal.returns
returns c i e a =
    let b = subst (Audits i e) (sym c.self.view_is) a in
    subst (MaximalSegments i e c.args.group can_load) (sym c.of.ensures) (b.touch_maximal c.args.group)
