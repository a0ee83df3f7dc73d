use Rattle.std.proofs.Common.{◌++◌, List, ℕ, ap, length}
use Rattle.mm_model.specs.{Lines.output_lines, Report.{group_line, section}}
use Rattle.mm_text.proofs.Appending.{appends_then, appends_same}
use Rattle.mm_report.proofs.sections.put_section.Goals as goal

pub returns : goal.returns
unfolding section
returns g c =
    appends_then
    (appends_same (appends_then c.put_group.ensures c.put_output.ensures)
    (ap (λ (bytes : List ℕ). group_line c.args.group (length bytes) ++ output_lines bytes) c.output-output.ensures.bytes))
    c.put_members.ensures
