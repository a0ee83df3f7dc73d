use Rattle.mm_machine.specs.Machine.{state_of}
use Rattle.mm_debug.proofs.Standing.{begun_at}
use Rattle.mm_debug.proofs.session.Session.new.Goals as goal

pub returns-clause-stands : goal.returns-clause-stands
returns-clause-stands g c = λ i is. rw (c.new.ensures, c.new-2.ensures, c.new-3.ensures) (begun_at i c.args.order (state_of c.args.machine) is)
