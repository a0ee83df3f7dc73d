use Rattle.std.proofs.Common.{sym, ap, ◌∙◌, subst}
use Rattle.mm_word.specs.Perm.{can_load}
use Rattle.mm_model.specs.{Audit.MaximalSegments, declared.word_use.WordUse.TheVariants.Touch, Reach.Grants}
use Rattle.mm_audit.specs.{Surveys.{SurveyValue, Surveys}, Walks.{outermost, outermost_of}}
use Rattle.mm_audit.proofs.{GroupSegments.segments_of, Granted.granted-small, GrantedSpans.{spans_granted, maximal_granted}}
use Rattle.mm_audit.proofs.surveys.Survey.touched.Goals as goal

pub returns-clause-outermost : goal.returns-clause-outermost
returns-clause-outermost c =
    let spans = c.self.inside.spans.items in
    let is = c.new.ensures ∙ ap (outermost Touch _ 0) c.deref.ensures.value ∙ ap (λ v. outermost Touch v 0 spans) c.mask_of.ensures in
    is ∙ ap (λ (s : SurveyValue). outermost_of Touch c.args.group s.spans) c.self.view_is

pub returns-clause-maximal : goal.returns-clause-maximal
returns-clause-maximal c i e a =
    let b = subst (Surveys i e) (sym c.self.view_is) a in
    let spans = c.self.inside.spans.items in
    let is = c.new.ensures ∙ ap (outermost Touch _ 0) c.deref.ensures.value ∙ ap (λ v. outermost Touch v 0 spans) c.mask_of.ensures in
    subst (MaximalSegments i e c.args.group can_load) (sym is)
    (maximal_granted i e c.args.group can_load (outermost_of Touch c.args.group spans)
    (segments_of (Grants i e) (granted-small i e b.image) Touch c.args.group spans (spans_granted i e spans b.spans)))
