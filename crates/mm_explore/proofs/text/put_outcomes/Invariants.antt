use Rattle.std.{proofs.Common.take, specs.List.flat_map}
use Rattle.mm_text.specs.Appends.{Appends}
use Rattle.mm_explore.specs.Results.{outcome_found_lines}
use Rattle.mm_explore.proofs.text.put_outcomes.Given as goal

abbrev pub invariant-loop-outcome : goal.invariant-loop-outcome
invariant-loop-outcome g l = Appends g.O.Sink.taken g.O.Sink.faults l.initial.out l.out l.initial.text l.text (flat_map outcome_found_lines (take l.outcome-index l.outcomes))
