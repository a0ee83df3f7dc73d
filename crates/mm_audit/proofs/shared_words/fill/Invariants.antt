use Rattle.mm_audit.specs.Meeting.{FillsWords}
use Rattle.mm_audit.proofs.shared_words.fill.Given as goal

abbrev pub invariant-loop-g : goal.invariant-loop-g
invariant-loop-g l = FillsWords l.groups l.word l.g l.fn.words l.words
