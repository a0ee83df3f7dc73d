use Rattle.mm_model.proofs.Starts.{start_kept}
use Rattle.mm_laws.proofs.RunStates.{starts}
use Rattle.mm_laws.proofs.states.starts_fit.Goals as goal

pub returns-clause-fit : goal.returns-clause-fit
returns-clause-fit c = starts

pub returns-clause-kept : goal.returns-clause-kept
returns-clause-kept c i h = start_kept i h.rising h.fresh
