use Rattle.std.proofs.Common.{◌∙◌, ap, is_some}
use Rattle.mm_report.proofs.Unions.{mapped_word}
use Rattle.mm_report.proofs.page_changes.is_there.Goals as goal

pub returns : goal.returns
returns g c = c.is_some.ensures ∙ ap is_some c.peek.ensures ∙ mapped_word (g.M.Memory.meaning c.args.mem.now) c.args.number c.requires.paged
