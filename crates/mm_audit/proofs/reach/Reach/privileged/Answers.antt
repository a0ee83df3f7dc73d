use Rattle.std.proofs.Common.{sym, subst}
use Rattle.mm_audit.specs.Audits.{Audits}
use Rattle.mm_audit.proofs.reach.Reach.privileged.Goals as goal

pub returns : goal.returns
returns c i e a =
    let b = subst (Audits i e) (sym c.self.view_is) a in
    (λ h. (b.privileged c.args.group).0 (c.is_privileged.ensures.0 h), λ p. c.is_privileged.ensures.1 ((b.privileged c.args.group).1 p))
