use Rattle.std.{proofs.Common.{◌++◌, ◌∙◌, codes, ap}, specs.List.flat_map}
use Rattle.mm_text.proofs.Appending.{appends_then, appends_same}
use Rattle.mm_span.specs.Spans.{span_line}
use Rattle.mm_keep_text.specs.Answers.{told_text, verdict_line, party_lines, cell_line, leak_line}
use Rattle.mm_keep_text.proofs.text.put_told.Goals as goal

pub returns : goal.returns
unfolding told_text
returns g c =
    appends_same (appends_then (appends_then (appends_then (appends_then c.put_verdict.ensures c.put_parties.ensures) c.put_spans.ensures) c.put_cells.ensures) c.put_leaks.ensures)
    ((λ j. verdict_line (c.deref.ensures.value j) ++ flat_map party_lines (c.deref-2.ensures.value j) ++ flat_map (span_line (codes "code ")) (c.deref-3.ensures.value j)
    ++ flat_map cell_line (c.deref-4.ensures.value j) ++ flat_map leak_line (c.deref-5.ensures.value j))
    ∙ ap told_text c.told.view_is)
