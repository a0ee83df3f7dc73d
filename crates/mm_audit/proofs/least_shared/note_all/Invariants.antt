use Rattle.mm_audit.specs.Meeting.{NotesAll}
use Rattle.mm_audit.proofs.least_shared.note_all.Given as goal

abbrev pub invariant-loop-h : goal.invariant-loop-h
invariant-loop-h l = NotesAll l.now.write l.now.touch l.word l.h l.fn.table l.table
