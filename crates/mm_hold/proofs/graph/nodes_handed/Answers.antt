use Rattle.std.proofs.Common.{[], ◌≡◌, ◌∙◌}
use Rattle.std.{proofs.lemmas.Map.Iter.{rest_all, rest_more}, specs.Map.Iter.deref}
use Rattle.mm_hold.specs.Graphs.{HandedAt, HandsAt}
use Rattle.mm_hold.proofs.Walked.{set_begins, set_more, set_all, handed_split, handed_none}
use Rattle.mm_hold.proofs.graph.nodes_handed.Goals as goal

pub loop-hand-init : goal.loop-hand-init
loop-hand-init c =
    let is = c.into_iter-hand-iterator.ensures.into_iter_gives ∙ c.iter-hand-items.ensures.rest in
    set_begins (HandedAt c.args.kernel.now.kept c.args.keys.now) c.args.handed.now.keys c.into_iter-hand-iterator.result c.new-nodes.result.items is c.new-nodes.ensures.items

pub loop-hand-preserved : goal.loop-hand-preserved
loop-hand-preserved c =
    let l = c.loop-hand in
    let kept = c.args.kernel.now.kept in
    let keys = c.args.keys.now in
    let u = c.in-Some.hand.now in
    let is = rest_more deref l.hand-iterator c.next.new.self c.next.result c.in-Some.hand c.in-Some.is c.next.ensures.steps in
    set_more (HandedAt kept keys) c.args.handed.now.keys l.hand-iterator c.next.new.self (HandsAt kept keys u.0 u.1) l.nodes.items c.add_handed.new.nodes.items
    (handed_split kept keys l.hand-iterator c.next.new.self u.0 u.1 is) l.invariant c.in_ok-add_handed.ensures

pub returns : goal.returns
returns c =
    let l = c.loop-hand in
    let kept = c.args.kernel.now.kept in
    let keys = c.args.keys.now in
    let none : l.hand-iterator ≡ [] = rest_all deref l.hand-iterator c.next.new.self c.next.result c.in-None.is c.next.ensures.steps in
    set_all (HandedAt kept keys) c.args.handed.now.keys l.hand-iterator l.nodes.items none (handed_none kept keys) l.invariant
