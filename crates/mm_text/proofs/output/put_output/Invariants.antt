use Rattle.std.proofs.Common.{◌≡◌, ℕ, List, ◌++◌, length}
use Rattle.mm_text.specs.Appends.{Appends}
use Rattle.mm_model.specs.Lines.{output_lines}
use Rattle.mm_text.proofs.output.put_output.Given as goal

-- what is gathered so far and the rows of the rest are all rows
abbrev pub invariant-loop-rest : goal.invariant-loop-rest
invariant-loop-rest g l = record {
  done : List ℕ;
  appends : Appends g.O.Sink.taken g.O.Sink.faults l.initial.out l.out l.initial.text l.text done;
  left : done ++ output_lines l.rest ≡ output_lines l.bytes;
}

abbrev pub decreases-loop-rest : goal.decreases-loop-rest
decreases-loop-rest g l = length l.rest
