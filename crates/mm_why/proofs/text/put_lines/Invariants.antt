use Rattle.std.proofs.Common.{take}
use Rattle.mm_text.specs.Appends.{Appends}
use Rattle.mm_why.specs.Text.{lines_text}
use Rattle.mm_why.proofs.text.put_lines.Given as goal

-- the lines before one are gathered
abbrev pub invariant-loop-k : goal.invariant-loop-k
invariant-loop-k g l = Appends g.O.Sink.taken g.O.Sink.faults l.initial.out l.out l.initial.text l.text (lines_text 0 (take l.k l.lines))
