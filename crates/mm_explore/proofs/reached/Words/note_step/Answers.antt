use Rattle.std.{proofs.Common.{◌++◌, subst}, specs.{List.flat_map, Option.option_to_list}}
use Rattle.mm_explore.specs.{Findings.any_kind, Words.{AreKept, passed_words}}
use Rattle.mm_explore.proofs.{Notes.more_ok, WordKeys.step_joined}
use Rattle.mm_model.specs.Counted.{writes}
use Rattle.mm_explore.proofs.reached.Words.note_step.Goals as goal

pub returns-clause-touched : goal.returns-clause-touched
returns-clause-touched c =
    let group = c.args.group in
    let step = c.args.step.now in
    more_ok c.note-2.result
    (λ more kept h. subst (λ l. AreKept l c.note-2.new.self.touched) (step_joined any_kind group kept step)
    (more (kept ++ flat_map (passed_words any_kind group) (option_to_list step.fetched)) (c.in_ok-note.ensures.touched kept h)))
    c.note-2.ensures.touched

pub returns-clause-wrote : goal.returns-clause-wrote
returns-clause-wrote c =
    let group = c.args.group in
    let step = c.args.step.now in
    more_ok c.note-2.result
    (λ more kept h. subst (λ l. AreKept l c.note-2.new.self.wrote) (step_joined writes group kept step)
    (more (kept ++ flat_map (passed_words writes group) (option_to_list step.fetched)) (c.in_ok-note.ensures.wrote kept h)))
    c.note-2.ensures.wrote
