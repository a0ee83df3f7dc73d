use Rattle.mm_text.proofs.Appending.{buffered_writes}
use Rattle.mm_report.proofs.trace.trace_line.Goals as goal

pub returns : goal.returns
returns g c = buffered_writes c.new-text.ensures c.put_step.ensures c.finish.ensures
