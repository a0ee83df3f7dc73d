use Rattle.mm_text.proofs.Appending.{appends_then}
use Rattle.mm_disasm.proofs.instructions.put_further.Goals as goal

pub returns : goal.returns
returns g c = appends_then c.put_piece.ensures c.put_operand.ensures
