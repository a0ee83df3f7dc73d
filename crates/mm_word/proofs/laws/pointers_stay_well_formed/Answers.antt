use Rattle.mm_word.proofs.{Below.IsBelow-well_formed, Results.{enter_result-well_formed, setptr_result-well_formed}}
use Rattle.mm_word.proofs.laws.pointers_stay_well_formed.Goals as goal

pub returns-clause-below : goal.returns-clause-below
returns-clause-below c = IsBelow-well_formed

pub returns-clause-spelled : goal.returns-clause-spelled
returns-clause-spelled c = setptr_result-well_formed

pub returns-clause-entered : goal.returns-clause-entered
returns-clause-entered c = enter_result-well_formed
