use Rattle.mm_model.proofs.CountsSay.{hit_says, says_hit, written_says}
use Rattle.mm_laws.proofs.CountExact.{says_written}
use Rattle.mm_laws.proofs.counts.counts_are_exact.Goals as goal

pub returns-clause-hits : goal.returns-clause-hits
returns-clause-hits c block us = (hit_says block us, says_hit block us)

pub returns-clause-written : goal.returns-clause-written
returns-clause-written c line block us is = (written_says line block us is, says_written line block us is)
