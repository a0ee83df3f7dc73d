use Rattle.std.proofs.Common.{rules}
use Rattle.mm_text.proofs.Appending.{appends_then}
use Rattle.mm_text.proofs.text_buffer.TextBuffer.put_bytes.Goals as goal

pub returns : goal.returns
returns g c = search (rules, appends_then c.hand_over.ensures.appends c.put_rest.ensures)
