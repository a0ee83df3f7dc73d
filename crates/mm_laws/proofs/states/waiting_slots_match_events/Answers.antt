use Rattle.mm_laws.proofs.RunStates.{queued, stand, waiting}
use Rattle.mm_laws.proofs.states.waiting_slots_match_events.Goals as goal

pub returns-clause-queued : goal.returns-clause-queued
returns-clause-queued c = queued

pub returns-clause-stand : goal.returns-clause-stand
returns-clause-stand c = stand

pub returns-clause-waiting : goal.returns-clause-waiting
returns-clause-waiting c = waiting
