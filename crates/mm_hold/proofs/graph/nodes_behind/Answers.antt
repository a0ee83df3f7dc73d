use Rattle.std.proofs.Common.{[], ◌≡◌, ◌∙◌}
use Rattle.std.{proofs.lemmas.Map.Iter.{rest_all, rest_more}, specs.Map.Iter.deref}
use Rattle.mm_hold.specs.Graphs.{BehindAt, ThroughDoor}
use Rattle.mm_hold.proofs.Walked.{set_begins, set_more, set_all, behind_split, behind_empty}
use Rattle.mm_hold.proofs.graph.nodes_behind.Goals as goal

pub loop-had-init : goal.loop-had-init
loop-had-init c =
    let is = c.into_iter-had-iterator.ensures.into_iter_gives ∙ c.iter-had-items.ensures.rest in
    set_begins (BehindAt c.args.kernel.now.kept c.args.keys.now) c.args.conduct.now.has.keys c.into_iter-had-iterator.result c.new-behind.result.items is c.new-behind.ensures.items

pub loop-had-preserved : goal.loop-had-preserved
loop-had-preserved c =
    let l = c.loop-had in
    let kept = c.args.kernel.now.kept in
    let keys = c.args.keys.now in
    let u = c.in-Some.had.now in
    let is = rest_more deref l.had-iterator c.next.new.self c.next.result c.in-Some.had c.in-Some.is c.next.ensures.steps in
    set_more (BehindAt kept keys) c.args.conduct.now.has.keys l.had-iterator c.next.new.self (ThroughDoor kept keys u.0 u.1) l.behind.items c.add_behind.new.behind.items
    (behind_split kept keys l.had-iterator c.next.new.self u.0 u.1 is) l.invariant c.in_ok-add_behind.ensures

pub returns : goal.returns
returns c =
    let l = c.loop-had in
    let kept = c.args.kernel.now.kept in
    let keys = c.args.keys.now in
    let none : l.had-iterator ≡ [] = rest_all deref l.had-iterator c.next.new.self c.next.result c.in-None.is c.next.ensures.steps in
    set_all (BehindAt kept keys) c.args.conduct.now.has.keys l.had-iterator l.behind.items none (behind_empty kept keys) l.invariant
