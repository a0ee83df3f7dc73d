use Rattle.std.{proofs.Common.subst, specs.Prelude.IfOk}
use Rattle.mm_confine_text.{specs.Found.IsKept, proofs.Confining.{kept_if_made, confined_if_made}}
use Rattle.mm_confine_text.proofs.finding.keeps.Goals as goal

pub returns-clause-is : goal.returns-clause-is
returns-clause-is c =
    subst (λ i. IfOk c.looked.result (IsKept i c.args.kept.now c.args.threads)) c.in_ok-kernel.ensures.image
    (subst (λ parts. IfOk c.looked.result (IsKept c.in_ok-kernel.kernel.image parts c.args.threads)) c.in_ok-kernel.ensures.kept c.looked.ensures)

pub returns-clause-holds : goal.returns-clause-holds
returns-clause-holds c =
    kept_if_made c.args.image.now c.args.kept.now c.args.threads c.looked.result
    (subst (λ i. IfOk c.looked.result (IsKept i c.args.kept.now c.args.threads)) c.in_ok-kernel.ensures.image
    (subst (λ parts. IfOk c.looked.result (IsKept c.in_ok-kernel.kernel.image parts c.args.threads)) c.in_ok-kernel.ensures.kept c.looked.ensures))

pub returns-clause-confines : goal.returns-clause-confines
returns-clause-confines c =
    confined_if_made c.args.image.now c.args.kept.now c.args.threads c.looked.result
    (subst (λ i. IfOk c.looked.result (IsKept i c.args.kept.now c.args.threads)) c.in_ok-kernel.ensures.image
    (subst (λ parts. IfOk c.looked.result (IsKept c.in_ok-kernel.kernel.image parts c.args.threads)) c.in_ok-kernel.ensures.kept c.looked.ensures))
