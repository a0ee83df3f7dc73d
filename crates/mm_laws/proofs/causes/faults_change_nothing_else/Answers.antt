use Rattle.mm_model.proofs.Causes.{state_orderly, fault_changes}
use Rattle.mm_laws.proofs.causes.faults_change_nothing_else.Goals as goal

pub returns : goal.returns
returns c i s n x cause img h fits = fault_changes s n x cause (state_orderly i s img h fits)
