use Rattle.std.proofs.Common.{sym, ◌∙◌, subst}
use Rattle.mm_model.specs.Groups.{among}
use Rattle.mm_audit.specs.{Surveys.{SurveyValue, Surveys, IsLeastTable}, Answering.IsAnswerOf}
use Rattle.mm_audit.proofs.surveys.Survey.apart.Goals as goal

pub returns-clause-answer : goal.returns-clause-answer
returns-clause-answer c =
    subst (λ (s : SurveyValue). IsAnswerOf s.served s.least (among c.args.groups.now) c.judge.result) c.self.view_is
    (rw (c.deref.ensures.value, c.deref-2.ensures.value) at c.judge.ensures.answer)

pub returns-clause-judged : goal.returns-clause-judged
returns-clause-judged c i e a =
    let b = subst (Surveys i e) (sym c.self.view_is) a in
    c.judge.ensures.judged i e b.image (c.deref.ensures.value ∙ b.served) (subst (IsLeastTable i e) (sym c.deref-2.ensures.value) b.least)
