use Rattle.std.{proofs.{Common.{◌≡◌, List, ap, ◌∙◌, sym, subst}, lemmas.List.take_all}, specs.List.flat_map}
use Rattle.mm_draft.specs.{declared.segment.Word.Word, Drafts.Segment}
use Rattle.mm_asm.specs.{Answers.Meets, Faults.word_failures}
use Rattle.mm_asm.proofs.{Built.numbered, BuiltNumbered.{goals_in, goals_are}, LateFirsts.met_next}
use Rattle.mm_asm.proofs.checks.meet_goals.Goals as goal

pub loop-number-preserved : goal.loop-number-preserved
loop-number-preserved c =
    let l = c.loop-number in
    let d = c.args.draft.now in
    let words : c.deref.result.now ≡ c.segment-item.result.words = c.deref.ensures.value ∙ ap (λ (s : Segment). s.words) c.segment.view_is in
    met_next (goals_in d) c.args.first.now l.first c.meet_goals_in.new.first c.segments-segment-items.result.now l.number c.segment-item.result c.loop-number-test.true c.segment-item.is l.invariant
    (subst (λ (ws : List Word). Meets l.first c.meet_goals_in.new.first (flat_map (word_failures d l.number) ws)) words c.meet_goals_in.ensures)

pub returns : goal.returns
returns c =
    let l = c.loop-number in
    let d = c.args.draft.now in
    subst (Meets c.args.first.now l.first)
    (ap (numbered (goals_in d) 0) (take_all l.number c.segments-segment-items.result.now c.loop-number-test.false ∙ c.segments-segment-items.ensures) ∙ sym (goals_are d 0 d.segments)) l.invariant
