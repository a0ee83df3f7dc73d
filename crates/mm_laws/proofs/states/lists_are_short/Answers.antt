use Rattle.mm_laws.proofs.RunStates.{short_queues, short_pending}
use Rattle.mm_laws.proofs.states.lists_are_short.Goals as goal

pub returns-clause-queues : goal.returns-clause-queues
returns-clause-queues c = short_queues

pub returns-clause-pending : goal.returns-clause-pending
returns-clause-pending c = short_pending
