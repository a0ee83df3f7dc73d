use Rattle.mm_text.proofs.Gathering.{gathers_then}
use Rattle.mm_why.proofs.text.put_named.Goals as goal

pub returns : goal.returns
returns g c = gathers_then c.put_piece.ensures c.put_number.ensures
