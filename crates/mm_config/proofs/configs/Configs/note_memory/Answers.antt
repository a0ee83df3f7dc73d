use Rattle.mm_config.proofs.NotedMemory.{on_ok_three, word_written, no_word_noted, word_noted}
use Rattle.mm_config.proofs.configs.Configs.note_memory.Goals as goal

pub note_cell-requires-clause-known : goal.note_cell-requires-clause-known
note_cell-requires-clause-known c =
    let touched = c.args.step.now.touched in
    word_written touched c.args.self.now c.note_mapped.new.self (c.in_ok-note_mapped.ensures touched c.requires) c.in-Some.word c.in-Some.ensures.all

pub returns-in-Some : goal.returns-in-Some
returns-in-Some c =
    let touched = c.args.step.now.touched in
    let e = c.note_cell.ensures in
    on_ok_three c.note_cell.result (word_noted touched c.args.self.now c.note_mapped.new.self (c.in_ok-note_mapped.ensures touched c.requires) c.note_cell.new.store c.note_cell.new.names) e.names e.still e.others

pub returns-in-None : goal.returns-in-None
returns-in-None c =
    let touched = c.args.step.now.touched in
    no_word_noted touched c.args.self.now c.note_mapped.new.self (c.in_ok-note_mapped.ensures touched c.requires) c.in-None.ensures.all
