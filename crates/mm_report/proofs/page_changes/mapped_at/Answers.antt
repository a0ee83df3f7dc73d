use Rattle.std.proofs.Common.{sym}
use Rattle.mm_report.proofs.Unions.{mapped_head}
use Rattle.mm_report.proofs.page_changes.mapped_at.Goals as goal

pub returns-then-i-pages-clause-number : goal.returns-then-i-pages-clause-number
returns-then-i-pages-clause-number g c = sym (mapped_head (g.M.Memory.meaning c.args.mem.now).pages c.args.i c.page_at.result c.page_at.ensures)
