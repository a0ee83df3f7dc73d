use Rattle.mm_machine.{specs.Machine.state_of, proofs.Keeping.memory_paged}
use Rattle.mm_machine.proofs.machine.Machine.memory.Goals as goal

pub returns-clause-paged : goal.returns-clause-paged
returns-clause-paged g c = memory_paged (state_of c.args.self.now) c.args.self.now.valid
