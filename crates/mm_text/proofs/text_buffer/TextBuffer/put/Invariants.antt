use Rattle.std.{proofs.Common.take, specs.List.flat_map}
use Rattle.mm_text.specs.{Appends.Appends, Pieces.piece_text}
use Rattle.mm_text.proofs.text_buffer.TextBuffer.put.Given as goal

abbrev pub invariant-loop-piece : goal.invariant-loop-piece
invariant-loop-piece g l = Appends g.O.Sink.taken g.O.Sink.faults l.initial.out l.out l.initial.self l.self (flat_map piece_text (take l.piece-index l.pieces))
