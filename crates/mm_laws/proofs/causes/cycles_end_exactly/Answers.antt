use Rattle.mm_model.proofs.Causes.{state_orderly, ends_exactly, faulted_exactly}
use Rattle.mm_laws.proofs.causes.cycles_end_exactly.Goals as goal

pub returns-clause-idle : goal.returns-clause-idle
returns-clause-idle c i s n img h fits = (ends_exactly s.core s.memory n (state_orderly i s img h fits)).idle

pub returns-clause-delivered : goal.returns-clause-delivered
returns-clause-delivered c i s n reg img h fits = (ends_exactly s.core s.memory n (state_orderly i s img h fits)).delivered reg

pub returns-clause-blocked : goal.returns-clause-blocked
returns-clause-blocked c i s n img h fits = (ends_exactly s.core s.memory n (state_orderly i s img h fits)).blocked

pub returns-clause-faulted : goal.returns-clause-faulted
returns-clause-faulted c s n = faulted_exactly s.core s.memory n

pub returns-clause-did : goal.returns-clause-did
returns-clause-did c i s n img h fits = (ends_exactly s.core s.memory n (state_orderly i s img h fits)).did
