use Rattle.std.proofs.Common.{List, ℕ, length}
use Rattle.mm_text.specs.Appends.{Appends}
use Rattle.mm_debug.{specs.Commands.lines_of, proofs.Dialogues.GoesOn}
use Rattle.mm_debug.proofs.lines.handle_lines.Given as goal

-- what is gathered so far was replied to the lines that are carried out
abbrev pub invariant-loop-rest : goal.invariant-loop-rest
invariant-loop-rest g l = record {
  said : List ℕ;
  appends : Appends g.O.Sink.taken g.O.Sink.faults l.initial.out l.out l.initial.replies l.replies said;
  goes : GoesOn g.H.LineHandler.Answers l.initial.handler (lines_of l.input) said l.handler (lines_of l.rest);
}

abbrev pub decreases-loop-rest : goal.decreases-loop-rest
decreases-loop-rest g l = length l.rest
