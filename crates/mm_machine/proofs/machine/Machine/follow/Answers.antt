use Rattle.mm_machine.proofs.Issuing.{list_of}
use Rattle.mm_machine.proofs.machine.Machine.follow.Goals as goal

pub returns-clause-goes : goal.returns-clause-goes
returns-clause-goes g c = list_of c.args.self.now c.issue.new.self c.args.items.now c.issue.ensures.goes
