use Rattle.mm_text.proofs.Appending.{appends_item}
use Rattle.mm_explore.specs.Results.{group_found_lines}
use Rattle.mm_explore.proofs.text.put_groups.Goals as goal

pub loop-group-preserved : goal.loop-group-preserved
loop-group-preserved g c = appends_item group_found_lines c.args.groups.now c.loop-group.group-index
    c.group-item.result c.loop-group-test.true c.group-item.is c.loop-group.invariant c.put_group.ensures
