use Rattle.mm_model.specs.Digits.{hex}
use Rattle.mm_text.proofs.Appending.{appends_more}
use Rattle.mm_text.proofs.output.put_row_bytes.Goals as goal

pub loop-byte-preserved : goal.loop-byte-preserved
loop-byte-preserved g c = appends_more (hex 2) c.args.bytes.now c.loop-byte.byte-index 0 c.loop-byte-test.true c.loop-byte.invariant c.put_piece.ensures
