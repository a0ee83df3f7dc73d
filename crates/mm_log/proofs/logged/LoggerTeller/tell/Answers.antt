use Rattle.mm_thread.specs.Told.{shown_in}
use Rattle.mm_machine.specs.Machine.{state_of}
use Rattle.mm_text.proofs.Appending.{appends_then, appends_same}
use Rattle.mm_log.proofs.Whole.{line_is}
use Rattle.mm_log.proofs.logged.LoggerTeller.tell.Goals as goal

pub returns-clause-line : goal.returns-clause-line
returns-clause-line g c =
    appends_same (appends_then c.put_step.ensures c.put_changes.ensures)
    (line_is (state_of c.args.machine.now) (state_of c.cycle_shown.new.self) c.args.item (shown_in c.cycle_shown.new.last) c.cycle_shown.new.last.step c.turns_of-turns.result c.args.machine.now.valid c.cycle_shown.ensures.told
    c.cycle_shown.ensures.step c.cycle_shown.ensures.state c.turns_of-turns.ensures)
