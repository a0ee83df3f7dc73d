use Rattle.mm_text.proofs.Appending.{appends_then}
use Rattle.mm_disasm.proofs.threads.put_thread_line.Goals as goal

pub returns : goal.returns
returns g c = appends_then (appends_then (appends_then (appends_then c.put.ensures c.put_handler.ensures) c.put_piece.ensures) c.put_pointer.ensures) c.put_piece-2.ensures
