use Rattle.std.proofs.Common.{sym, ◌∙◌, subst}
use Rattle.mm_audit.specs.{Audits.Audits, Surveys.IsLeastTable}
use Rattle.mm_audit.proofs.reach.Reach.apart.Goals as goal

pub returns : goal.returns
returns c i e a =
    let b = subst (Audits i e) (sym c.self.view_is) a in
    c.judge.ensures.judged i e b.image (c.deref.ensures.value ∙ b.served) (subst (IsLeastTable i e) (sym c.deref-2.ensures.value) b.least)
