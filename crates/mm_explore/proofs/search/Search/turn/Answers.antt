use Rattle.mm_explore.specs.FoundLists.{with_configs}
use Rattle.mm_explore.specs.Explored.{leads_to}
use Rattle.mm_explore.specs.Searching.{schedule_at}
use Rattle.mm_explore.proofs.Steps.{can_put, is_put, turn_leads, turn_made}
use Rattle.mm_explore.proofs.search.Search.turn.Goals as goal

pub put-requires : goal.put-requires
put-requires c = can_put c.args.img.now c.args.self.now.found c.args.self.now.configs c.requires.kept c.args.at c.requires.inside

pub turn-requires : goal.turn-requires
turn-requires c =
    let i = c.args.img.now in
    let list = c.args.self.now.found in
    let t = schedule_at c.args.self.now c.args.at in
    (i, with_configs i list (leads_to i t), is_put i list c.put.new.self c.args.at c.requires.inside (c.in_ok-put.ensures i _ c.requires.kept.stands))

pub returns-clause-at : goal.returns-clause-at
returns-clause-at c =
    let i = c.args.img.now in
    let list = c.args.self.now.found in
    let t = schedule_at c.args.self.now c.args.at in
    let there = is_put i list c.put.new.self c.args.at c.requires.inside (c.in_ok-put.ensures i _ c.requires.kept.stands) in
    turn_leads i t c.args.item c.turn.new.self list (c.in_ok-step.ensures.machine i _ there)

pub returns-clause-made : goal.returns-clause-made
returns-clause-made c =
    let i = c.args.img.now in
    let list = c.args.self.now.found in
    let t = schedule_at c.args.self.now c.args.at in
    let there = is_put i list c.put.new.self c.args.at c.requires.inside (c.in_ok-put.ensures i _ c.requires.kept.stands) in
    turn_made i t c.args.item _ (c.in_ok-step.ensures.step i _ there) (c.group_of-group.ensures i _ (c.in_ok-step.ensures.machine i _ there))
