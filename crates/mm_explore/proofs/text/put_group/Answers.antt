use Rattle.std.{proofs.Common.{◌++◌, ◌∙◌, codes, decimal, ap}, specs.List.flat_map}
use Rattle.mm_model.specs.Lines.{newline}
use Rattle.mm_text.proofs.Appending.{appends_then, appends_same}
use Rattle.mm_explore.specs.Results.{group_found_lines}
use Rattle.mm_span.specs.Spans.{span_line}
use Rattle.mm_explore.proofs.text.put_group.Goals as goal

pub returns : goal.returns
returns g c =
    let number = c.group.inside.group in
    appends_same (appends_then (appends_then c.put_number.ensures c.put_spans.ensures) c.put_spans-2.ensures)
    ((λ j. codes "group " ++ decimal number ++ newline ++ flat_map (span_line (codes "touched ")) (c.deref.ensures.value j) ++ flat_map (span_line (codes "wrote ")) (c.deref-2.ensures.value j))
    ∙ ap group_found_lines c.group.view_is)
