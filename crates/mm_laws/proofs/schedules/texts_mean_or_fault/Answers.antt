use Rattle.mm_model.proofs.{WordTexts.{means_unique, never_both, fault_unique}, ScheduleWords.schedule_grammar}
use Rattle.mm_laws.proofs.Texts.{always_one}
use Rattle.mm_laws.proofs.schedules.texts_mean_or_fault.Goals as goal

pub returns-clause-one_list : goal.returns-clause-one_list
returns-clause-one_list c = means_unique schedule_grammar

pub returns-clause-one_fault : goal.returns-clause-one_fault
returns-clause-one_fault c = fault_unique schedule_grammar

pub returns-clause-never_both : goal.returns-clause-never_both
returns-clause-never_both c = never_both schedule_grammar

pub returns-clause-always_one : goal.returns-clause-always_one
returns-clause-always_one c = always_one
