use Rattle.std.proofs.lemmas.Result.{err_from_is_err_and}
use Rattle.mm_text.proofs.Appending.{buffered_writes}
use Rattle.mm_debug.proofs.session.Session.line.Goals as goal

pub returns-in_err-finish-clause-reply : goal.returns-in_err-finish-clause-reply
returns-in_err-finish-clause-reply g c =
    let writes = buffered_writes c.new-reply.ensures c.put_line-go.ensures.reply c.in_err-finish.ensures in
    let fails = err_from_is_err_and c.from_residual.result c.from_residual.ensures.1 in
    rw fails.1 (record { later = writes.later; whole = tt; part = writes.part; failed = writes.failed })
