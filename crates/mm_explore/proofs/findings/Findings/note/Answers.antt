use Rattle.mm_explore.proofs.{Notes.more_ok, Notes.noted_next}
use Rattle.mm_explore.proofs.findings.Findings.note.Goals as goal

pub returns-clause-noted : goal.returns-clause-noted
returns-clause-noted c =
    let made = c.args.made.now in
    more_ok c.note_fault.result
    (λ faults i list done x h is step group.
    noted_next i list done x c.args.self.now (record c.args.self.now { words = c.note_step.new.self; faults = c.note_fault.new.faults }) made.step made.group c.args.origin h is step group
    c.in_ok-note_step.ensures.touched c.in_ok-note_step.ensures.wrote faults)
    c.note_fault.ensures
