use Rattle.std.proofs.Common.{sym, subst}
use Rattle.mm_graph.specs.Masks.{meaning}
use Rattle.mm_model.specs.declared.word_use.WordUse.TheVariants.{Touch, Write}
use Rattle.mm_audit.{specs.{GroupSets.AreGroupSets, Surveys.Surveys}, proofs.AuditSets.audits}
use Rattle.mm_audit.proofs.surveying.audit.Goals as goal

pub returns : goal.returns
returns c =
    audits c.args.img.now (meaning c.args.entries.now) _ (subst (Surveys c.args.img.now (meaning c.args.entries.now))
    (sym c.survey-2.view_is) c.in_ok-survey.ensures) c.in_ok-touch.touch c.in_ok-write.write
    (subst (λ v. AreGroupSets v Touch 64 c.in_ok-touch.touch) c.deref.ensures.value c.in_ok-touch.ensures)
    (subst (λ v. AreGroupSets v Write 64 c.in_ok-write.write) c.deref-2.ensures.value c.in_ok-write.ensures)
