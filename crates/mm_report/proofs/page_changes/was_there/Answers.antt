use Rattle.std.proofs.Common.{◌∙◌}
use Rattle.mm_report.proofs.Unions.{was_mapped}
use Rattle.mm_report.proofs.page_changes.was_there.Goals as goal

pub returns : goal.returns
returns c = c.is_some.ensures ∙ was_mapped c.args.pages.now c.args.number c.find_page.result c.requires c.find_page.ensures
