use Rattle.std.proofs.Common.{take}
use Rattle.mm_text.specs.Appends.{Appends}
use Rattle.mm_model.specs.Lines.{bytes_text}
use Rattle.mm_text.proofs.output.put_row_bytes.Given as goal

abbrev pub invariant-loop-byte : goal.invariant-loop-byte
invariant-loop-byte g l = Appends g.O.Sink.taken g.O.Sink.faults l.initial.out l.out l.initial.text l.text (bytes_text (take l.byte-index l.bytes))
