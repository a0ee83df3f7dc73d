use Rattle.mm_text.proofs.Appending.{appends_item}
use Rattle.mm_explore.specs.Results.{outcome_found_lines}
use Rattle.mm_explore.proofs.text.put_outcomes.Goals as goal

pub loop-outcome-preserved : goal.loop-outcome-preserved
loop-outcome-preserved g c = appends_item outcome_found_lines c.args.outcomes.now c.loop-outcome.outcome-index
    c.outcome-item.result c.loop-outcome-test.true c.outcome-item.is c.loop-outcome.invariant c.put_outcome.ensures
