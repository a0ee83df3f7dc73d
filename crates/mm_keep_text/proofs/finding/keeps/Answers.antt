use Rattle.std.{proofs.Common.subst, specs.Prelude.IfOk}
use Rattle.mm_keep_text.{specs.Answers.IsAnswer, proofs.Ones.{kept_if_made}}
use Rattle.mm_keep_text.proofs.finding.keeps.Goals as goal

pub returns-clause-holds : goal.returns-clause-holds
returns-clause-holds c =
    let kernel = c.in_ok-kernel.kernel in
    let limit = c.args.threads in
    kept_if_made c.args.image.now c.args.kept.now limit c.answer.result
    (subst (λ i. IfOk c.answer.result (λ a. IsAnswer i c.args.kept.now limit a)) c.in_ok-kernel.ensures.image
    (subst (λ parts. IfOk c.answer.result (λ a. IsAnswer kernel.image parts limit a)) c.in_ok-kernel.ensures.kept c.answer.ensures))
