use Rattle.std.proofs.Common.{Option, map, ap, ◌∙◌, sym, subst}
use Rattle.mm_model.proofs.Answered.{gives_value}
use Rattle.mm_draft.specs.Laws.{Pair, failure_pair, least}
use Rattle.mm_asm.specs.{Meaning.object_of, declared.fault.AsmError.TheVariants.NoMemory, Faults.late_failures}
use Rattle.mm_asm.specs.Answers.{Fails, pair_of_first}
use Rattle.mm_asm.proofs.{MeantObjects.object_is, LateFirsts.met_late, LateSources.late_place}
use Rattle.mm_asm.proofs.{LateTargets.{pointers_fit, threads_fit}, LateWords.{segments_fit, externals_named}}
use Rattle.mm_asm.proofs.LateAnswers.{none_late}
use Rattle.mm_object.specs.Steps.{key_names}
use Rattle.mm_asm.proofs.assembling.assemble_draft.Goals as goal

pub returns-in-Some : goal.returns-in-Some
returns-in-Some c =
    let met = met_late c.args.draft.now c.deref.result.now c.deref-2.result.now c.meet_goals.new.first c.meet_targets.new.first c.externals.new.first
    (c.deref.ensures.value ∙ c.in_ok-uses.ensures.uses) (c.deref-2.ensures.value ∙ c.in_ok-uses.ensures.uses) c.meet_goals.ensures c.meet_targets.ensures c.in_ok-externals.ensures.faults in
    subst (λ (p : Option Pair). Fails p c.error_of.result) (ap pair_of_first (sym c.in-Some.is) ∙ met) c.error_of.ensures

pub returns : goal.returns
returns c =
    let d = c.args.draft.now in
    let met = met_late d c.deref.result.now c.deref-2.result.now c.meet_goals.new.first c.meet_targets.new.first c.externals.new.first
    (c.deref.ensures.value ∙ c.in_ok-uses.ensures.uses) (c.deref-2.ensures.value ∙ c.in_ok-uses.ensures.uses) c.meet_goals.ensures c.meet_targets.ensures c.in_ok-externals.ensures.faults in
    gives_value Fails NoMemory (least (map failure_pair (late_failures d))) (object_of d) c.object_of.result tt
    (sym met ∙ ap pair_of_first c.in_default.is) c.object_of.ensures.object c.object_of.ensures.memory

pub object_of-requires-clause-object : goal.object_of-requires-clause-object
object_of-requires-clause-object c =
    let d = c.args.draft.now in
    let met = met_late d c.deref.result.now c.deref-2.result.now c.meet_goals.new.first c.meet_targets.new.first c.externals.new.first
    (c.deref.ensures.value ∙ c.in_ok-uses.ensures.uses) (c.deref-2.ensures.value ∙ c.in_ok-uses.ensures.uses) c.meet_goals.ensures c.meet_targets.ensures c.in_ok-externals.ensures.faults in
    object_is d c.requires.bounded (none_late (late_failures d) (sym met ∙ ap pair_of_first c.in_default.is))

pub error_of-requires : goal.error_of-requires
error_of-requires c =
    let d = c.args.draft.now in
    let met = met_late d c.deref.result.now c.deref-2.result.now c.meet_goals.new.first c.meet_targets.new.first c.externals.new.first
    (c.deref.ensures.value ∙ c.in_ok-uses.ensures.uses) (c.deref-2.ensures.value ∙ c.in_ok-uses.ensures.uses) c.meet_goals.ensures c.meet_targets.ensures c.in_ok-externals.ensures.faults in
    late_place d (failure_pair c.in-Some.failure) c.requires.small (sym met ∙ ap pair_of_first c.in-Some.is)

pub object_of-requires-clause-segments : goal.object_of-requires-clause-segments
object_of-requires-clause-segments c = segments_fit c.args.draft.now c.requires.bounded

pub names_of-requires : goal.names_of-requires
names_of-requires c =
    let d = c.args.draft.now in
    let met = met_late d c.deref.result.now c.deref-2.result.now c.meet_goals.new.first c.meet_targets.new.first c.externals.new.first
    (c.deref.ensures.value ∙ c.in_ok-uses.ensures.uses) (c.deref-2.ensures.value ∙ c.in_ok-uses.ensures.uses) c.meet_goals.ensures c.meet_targets.ensures c.in_ok-externals.ensures.faults in
    externals_named d c.deref-2.result.now (key_names c.in_ok-externals.externals.keys) (object_is d c.requires.bounded (none_late (late_failures d) (sym met ∙ ap pair_of_first c.in_default.is)))
    (c.deref-2.ensures.value ∙ c.in_ok-uses.ensures.uses) c.in_ok-externals.ensures.names

pub object_of-requires-clause-pointers : goal.object_of-requires-clause-pointers
object_of-requires-clause-pointers c =
    let d = c.args.draft.now in
    let met = met_late d c.deref.result.now c.deref-2.result.now c.meet_goals.new.first c.meet_targets.new.first c.externals.new.first
    (c.deref.ensures.value ∙ c.in_ok-uses.ensures.uses) (c.deref-2.ensures.value ∙ c.in_ok-uses.ensures.uses) c.meet_goals.ensures c.meet_targets.ensures c.in_ok-externals.ensures.faults in
    pointers_fit d c.requires.bounded (none_late (late_failures d) (sym met ∙ ap pair_of_first c.in_default.is))

pub object_of-requires-clause-threads : goal.object_of-requires-clause-threads
object_of-requires-clause-threads c =
    let d = c.args.draft.now in
    let met = met_late d c.deref.result.now c.deref-2.result.now c.meet_goals.new.first c.meet_targets.new.first c.externals.new.first
    (c.deref.ensures.value ∙ c.in_ok-uses.ensures.uses) (c.deref-2.ensures.value ∙ c.in_ok-uses.ensures.uses) c.meet_goals.ensures c.meet_targets.ensures c.in_ok-externals.ensures.faults in
    threads_fit d c.requires.bounded (none_late (late_failures d) (sym met ∙ ap pair_of_first c.in_default.is))

pub object_of-requires-clause-few : goal.object_of-requires-clause-few
object_of-requires-clause-few c = c.requires.bounded.segments.few
