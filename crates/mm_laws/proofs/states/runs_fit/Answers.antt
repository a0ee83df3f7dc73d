use Rattle.mm_laws.proofs.RunStates.{runs_fit, runs_kept, runs_within}
use Rattle.mm_laws.proofs.states.runs_fit.Goals as goal

pub returns-clause-fit : goal.returns-clause-fit
returns-clause-fit c = runs_fit

pub returns-clause-kept : goal.returns-clause-kept
returns-clause-kept c = runs_kept

pub returns-clause-bound : goal.returns-clause-bound
returns-clause-bound c = runs_within
