use Rattle.std.proofs.{Common.{sym, ◌∙◌, subst, rules}, lemmas.List.get_or_default}
use Rattle.mm_why.{specs.Searches.{stage_of, IsPlaced, IsClosed}, proofs.Searching.{expand_more, expand_end}}
use Rattle.mm_why.proofs.search.Search.expand_all.Goals as goal

pub expand-requires-clause-placed : goal.expand-requires-clause-placed
expand-requires-clause-placed c =
    let node = c.index-node.ensures ∙ get_or_default c.loop-at.self.queue.items c.loop-at.at c.index-node.result.now 0 (search rules) in
    subst (IsPlaced c.loop-at.self.places.items) (sym node) (c.loop-at.invariant.advances.now.queued c.loop-at.at (search rules))

pub loop-at-preserved : goal.loop-at-preserved
loop-at-preserved c =
    let node = c.index-node.ensures ∙ get_or_default c.loop-at.self.queue.items c.loop-at.at c.index-node.result.now 0 (search rules) in
    expand_more c.args.subject.now.image.now c.args.subject.now.graph.now.keys.items c.args.subject.now.group c.args.subject.now.graph.now.nodes.items c.args.subject.now.graph.now.targets.items
    (stage_of c.args.self.now) (stage_of c.loop-at.self) (stage_of c.expand.new.self) c.loop-at.at
    c.loop-at.invariant (search rules) (
      c.in_ok-expand.ensures.0,
      subst (IsClosed c.args.subject.now.graph.now.nodes.items
          c.args.subject.now.graph.now.targets.items c.expand.new.self.places.items) node
          c.in_ok-expand.ensures.1,
    )

pub returns-clause-closed : goal.returns-clause-closed
returns-clause-closed c =
    expand_end c.args.subject.now.image.now c.args.subject.now.graph.now.keys.items c.args.subject.now.group c.args.subject.now.graph.now.nodes.items c.args.subject.now.graph.now.targets.items
    (stage_of c.args.self.now) (stage_of c.loop-at.self) c.loop-at.at c.loop-at.invariant (search rules)
