use Rattle.mm_laws.proofs.CountSums.{accesses_sum, few_writebacks, look_ups_add}
use Rattle.mm_laws.proofs.counts.counts_sum.Goals as goal

pub returns-clause-accesses : goal.returns-clause-accesses
returns-clause-accesses c = accesses_sum

pub returns-clause-few : goal.returns-clause-few
returns-clause-few c = few_writebacks

pub returns-clause-look_ups : goal.returns-clause-look_ups
returns-clause-look_ups c = look_ups_add
