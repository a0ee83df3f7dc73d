use Rattle.mm_asm.{specs.Faults.word_failures, proofs.LateFirsts.met_more}
use Rattle.mm_asm.proofs.checks.meet_goals_in.Goals as goal

pub loop-word-preserved : goal.loop-word-preserved
loop-word-preserved c =
    let l = c.loop-word in
    met_more (word_failures c.args.draft.now c.args.segment) c.args.first.now l.first c.meet_goal.new.first
    c.args.words.now l.word-index c.word-item.result c.loop-word-test.true c.word-item.is l.invariant
    c.meet_goal.ensures
