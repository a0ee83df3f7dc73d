use Rattle.std.{proofs.Common.take, specs.List.flat_map}
use Rattle.mm_text.specs.Appends.{Appends}
use Rattle.mm_keep_text.specs.Answers.{leak_line}
use Rattle.mm_keep_text.proofs.text.put_leaks.Given as goal

abbrev pub invariant-loop-leak : goal.invariant-loop-leak
invariant-loop-leak g l = Appends g.O.Sink.taken g.O.Sink.faults l.initial.out l.out l.initial.text l.text (flat_map leak_line (take l.leak-index l.leaks))
