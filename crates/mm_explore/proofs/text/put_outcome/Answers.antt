use Rattle.std.{proofs.Common.{◌++◌, ◌∙◌, codes, decimal, ap}, specs.List.flat_map}
use Rattle.mm_text.proofs.Appending.{appends_then, appends_same}
use Rattle.mm_explore.specs.{Results.{slot_found_line, output_text, ending_text, outcome_found_lines}, Texts.by_line}
use Rattle.mm_explore.proofs.text.put_outcome.Goals as goal

pub returns : goal.returns
unfolding outcome_found_lines
returns g c =
    let o = c.outcome.inside in
    appends_same (appends_then (appends_then (appends_then c.put_ending.ensures c.put_slots.ensures) c.put_outputs.ensures) c.put_by.ensures)
    ((λ j. codes "outcome " ++ decimal o.count ++ ending_text o.ending ++ flat_map slot_found_line (c.deref.ensures.value j)
    ++ flat_map output_text (c.deref-2.ensures.value j) ++ by_line (c.deref-3.ensures.value j))
    ∙ ap outcome_found_lines c.outcome.view_is)
