use Rattle.std.proofs.Common.{◌++◌, ◌∙◌, length, ap}
use Rattle.mm_model.specs.{Lines.output_lines, Report.group_line}
use Rattle.mm_text.proofs.Appending.{appends_then, appends_same}
use Rattle.mm_explore.specs.Results.{output_text}
use Rattle.mm_explore.proofs.text.put_output_text.Goals as goal

pub returns : goal.returns
returns g c =
    let group = c.output.inside.group in
    appends_same (appends_then c.put.ensures c.put_output.ensures)
    ((λ j. group_line group (length (c.as_slice-bytes.ensures.value j)) ++ output_lines (c.as_slice-bytes.ensures.value j)) ∙ ap output_text c.output.view_is)
