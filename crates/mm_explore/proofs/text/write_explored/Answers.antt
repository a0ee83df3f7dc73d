use Rattle.std.{proofs.Common.{◌++◌, ◌∙◌, codes, decimal, ap}, specs.List.flat_map}
use Rattle.mm_text.proofs.Appending.{appends_then, appends_same, buffered_writes}
use Rattle.mm_explore.specs.Results.{explored_text, extent_text, group_found_lines, fault_found_lines, outcome_found_lines}
use Rattle.mm_explore.proofs.text.write_explored.Goals as goal

pub returns : goal.returns
unfolding explored_text
returns g c =
    let e = c.e.inside in
    buffered_writes c.new-text.ensures
    (appends_same (appends_then (appends_then (appends_then c.put_extent.ensures c.put_groups.ensures) c.put_faults.ensures) c.put_outcomes.ensures)
    ((λ j. codes "explored " ++ decimal e.count ++ extent_text e.all ++ flat_map group_found_lines (c.deref.ensures.value j)
    ++ flat_map fault_found_lines (c.deref-2.ensures.value j) ++ flat_map outcome_found_lines (c.deref-3.ensures.value j))
    ∙ ap explored_text c.e.view_is))
    c.finish.ensures
