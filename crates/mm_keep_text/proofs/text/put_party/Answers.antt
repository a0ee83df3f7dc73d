use Rattle.std.{proofs.Common.{◌++◌, ◌∙◌, codes, ap}, specs.List.flat_map}
use Rattle.mm_model.specs.Lines.{newline}
use Rattle.mm_text.proofs.Appending.{appends_then, appends_same}
use Rattle.mm_span.specs.Spans.{span_line}
use Rattle.mm_keep_text.specs.Answers.{origin_text, party_lines}
use Rattle.mm_keep_text.proofs.text.put_party.Goals as goal

pub returns : goal.returns
returns g c =
    let p = c.party.inside in
    appends_same (appends_then (appends_then (appends_then c.put_origin.ensures c.put.ensures) c.put_spans.ensures) c.put_spans-2.ensures)
    ((λ j. origin_text p.origin ++ newline ++ flat_map (span_line (codes "reads ")) (c.deref.ensures.value j) ++ flat_map (span_line (codes "writes ")) (c.deref-2.ensures.value j))
    ∙ ap party_lines c.party.view_is)
