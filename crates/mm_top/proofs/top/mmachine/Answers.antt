use Rattle.mm_top.proofs.{Once.{complete, refuses}, Verdicts.{usage, refused, asks, whole, done, part, line}}
use Rattle.mm_top.proofs.Headlines.{run_headline, trace_headline, log_headline, explore_headline, keeps_headline}
use Rattle.mm_top.proofs.top.mmachine.Goals as goal

pub returns-clause-usage : goal.returns-clause-usage
returns-clause-usage g c = usage c.by_row-status.ensures.answers

pub returns-clause-headline : goal.returns-clause-headline
returns-clause-headline g c = run_headline c.by_row-status.ensures.answers

pub returns-clause-reach : goal.returns-clause-reach
returns-clause-reach g c = trace_headline c.by_row-status.ensures.answers

pub returns-clause-replay : goal.returns-clause-replay
returns-clause-replay g c = log_headline c.by_row-status.ensures.answers

pub returns-clause-explore : goal.returns-clause-explore
returns-clause-explore g c = explore_headline c.by_row-status.ensures.answers

pub returns-clause-keeps : goal.returns-clause-keeps
returns-clause-keeps g c = keeps_headline c.by_row-status.ensures.answers

pub returns-clause-line : goal.returns-clause-line
returns-clause-line g c = line c.write_line.ensures

pub returns-clause-done : goal.returns-clause-done
returns-clause-done g c = done c.by_row-status.ensures.answers

pub returns-clause-part : goal.returns-clause-part
returns-clause-part g c = part c.by_row-status.ensures.answers

pub returns-clause-refused : goal.returns-clause-refused
returns-clause-refused g c = refused c.by_row-status.ensures.answers

pub returns-clause-asks : goal.returns-clause-asks
returns-clause-asks g c = asks c.by_row-status.ensures.answers

pub returns-clause-whole : goal.returns-clause-whole
returns-clause-whole g c = whole c.by_row-status.ensures.answers

pub returns-clause-refuses : goal.returns-clause-refuses
returns-clause-refuses g c = refuses c.by_row-status.ensures.answers

pub returns-clause-complete : goal.returns-clause-complete
returns-clause-complete g c = complete c.by_row-status.ensures.answers
