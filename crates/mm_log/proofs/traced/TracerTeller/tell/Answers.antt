use Rattle.mm_machine.specs.Machine.{state_of}
use Rattle.mm_text.proofs.Appending.{appends_same}
use Rattle.mm_log.proofs.ToldRuns.{trace_line_is}
use Rattle.mm_log.proofs.traced.TracerTeller.tell.Goals as goal

pub returns-clause-line : goal.returns-clause-line
returns-clause-line g c =
    appends_same c.put_step.ensures
    (trace_line_is (state_of c.args.machine.now) (state_of c.cycle-step.new.self) c.args.item c.cycle-step.result
    c.turns_of-turns.result c.cycle-step.ensures.step c.cycle-step.ensures.state c.turns_of-turns.ensures)
