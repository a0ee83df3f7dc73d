use Rattle.mm_machine.proofs.Issuing.{robin_of}
use Rattle.mm_machine.proofs.machine.Machine.round_robin.Goals as goal

pub returns-clause-goes : goal.returns-clause-goes
returns-clause-goes g c = (robin_of c.args.self.now c.issue.new.self c.args.previous c.issue.result c.args.count c.issue.ensures.goes c.issue.ensures.last).0

pub returns-clause-last : goal.returns-clause-last
returns-clause-last g c = (robin_of c.args.self.now c.issue.new.self c.args.previous c.issue.result c.args.count c.issue.ensures.goes c.issue.ensures.last).1
