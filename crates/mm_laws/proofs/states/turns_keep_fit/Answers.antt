use Rattle.mm_model.proofs.{StateKeeps.{after_state, after_fits, after_kept}, TurnBounds.after_within}
use Rattle.mm_laws.proofs.RunStates.{takes_turn}
use Rattle.mm_laws.proofs.states.turns_keep_fit.Goals as goal

pub returns-clause-states : goal.returns-clause-states
returns-clause-states c = after_state

pub returns-clause-fit : goal.returns-clause-fit
returns-clause-fit c = after_fits

pub returns-clause-kept : goal.returns-clause-kept
returns-clause-kept c = after_kept

pub returns-clause-bound : goal.returns-clause-bound
returns-clause-bound c i s n h fits few = after_within s n h.core fits.matched few

pub returns-clause-one_slot : goal.returns-clause-one_slot
returns-clause-one_slot c = takes_turn
