use Rattle.std.proofs.Common.{◌++◌, ◌∙◌, codes, decimal, ap}
use Rattle.mm_model.specs.Lines.{newline}
use Rattle.mm_text.proofs.Appending.{appends_then, appends_same}
use Rattle.mm_explore.specs.{Results.fault_found_lines, Texts.by_line}
use Rattle.mm_explore.proofs.text.put_fault.Goals as goal

pub returns : goal.returns
unfolding fault_found_lines
returns g c =
    let f = c.fault.inside in
    appends_same (appends_then c.put.ensures c.put_by.ensures)
    ((λ j. codes "fault " ++ decimal f.slot ++ codes " " ++ decimal f.cause ++ newline ++ by_line (c.deref.ensures.value j)) ∙ ap fault_found_lines c.fault.view_is)
