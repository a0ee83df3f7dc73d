use Rattle.std.{proofs.{Common.{[], ap, sym, ◌∙◌, arith}, lemmas.List.take_all}, specs.List.flat_map}
use Rattle.mm_text.{specs.Pieces.piece_text, proofs.Appending.{appends_more, appends_same, fold-texts}}
use Rattle.mm_text.proofs.text_buffer.TextBuffer.put.Goals as goal

pub loop-piece-preserved : goal.loop-piece-preserved
loop-piece-preserved g c =
    appends_more piece_text c.args.pieces.now c.loop-piece.piece-index _ c.loop-piece-test.true c.loop-piece.invariant c.put_piece.ensures

pub returns : goal.returns
returns g c =
    let pieces = c.args.pieces.now in
    appends_same c.loop-piece.invariant
    (ap (flat_map piece_text) (take_all c.loop-piece.piece-index pieces (omega arith)) ∙ sym (fold-texts piece_text [] pieces))
