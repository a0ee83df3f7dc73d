use Rattle.mm_text.proofs.Appending.{buffered_writes}
use Rattle.mm_top.proofs.detail.write_lines.Goals as goal

pub returns-clause-lines : goal.returns-clause-lines
returns-clause-lines g c = buffered_writes c.new-text.ensures c.issue_detail.ensures.lines c.finish.ensures
