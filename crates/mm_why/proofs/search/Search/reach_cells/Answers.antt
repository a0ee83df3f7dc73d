use Rattle.std.proofs.Common.{◌≡◌, ◌<◌, ◌≤◌, ap, subst, arith}
use Rattle.mm_flow.specs.Edges.{node_at}
use Rattle.mm_why.{specs.{Searches.stage_of, Graphs.CellsPlaced}, proofs.GraphFacts.{order, cells_more}}
use Rattle.mm_why.proofs.search.Search.reach_cells.Goals as goal

pub loop-k-preserved : goal.loop-k-preserved
loop-k-preserved c = (
  c.in_ok-reach_cell.ensures.len,
  λ at now.
      let r = c.loop-k.invariant.1 at now in
      let lo : (node_at c.args.subject.now.graph.now.nodes.items c.args.node).low ≤ c.loop-k.k = subst (λ v. v.low ≤ c.loop-k.k) c.node_of-here.ensures c.loop-k.auto.k in
      let hi : c.loop-k.k < (node_at c.args.subject.now.graph.now.nodes.items c.args.node).high = subst (λ v. c.loop-k.k < v.high) c.node_of-here.ensures c.loop-k-test.true in
      cells_more c.args.subject.now.image.now c.args.subject.now.graph.now c.requires.graph c.args.subject.now.group c.args.node c.args.by (stage_of c.args.self.now) at
      (stage_of c.loop-k.self) (stage_of c.reach_cell.new.self) c.loop-k.k r
      (c.in_ok-reach_cell.ensures.placed c.args.node (r.advances.further.places c.args.node c.args.by at) lo hi r.advances.now),
)

pub returns-clause-placed : goal.returns-clause-placed
returns-clause-placed c = λ at now.
    let o = order c.args.subject.now.image.now c.args.subject.now.graph.now c.requires.graph c.args.node c.requires.node in
    let e : c.loop-k.k ≡ (node_at c.args.subject.now.graph.now.nodes.items c.args.node).high =
    (let h = ap (λ v. v.high) c.node_of-here.ensures in let l = ap (λ v. v.low) c.node_of-here.ensures in let a = c.loop-k-test.false in
    let b = c.loop-k.auto.k-end (omega (arith, o, h, l)) in omega (arith, a, b, h)) in
    subst (λ v. CellsPlaced c.args.subject.now.image.now c.args.subject.now.graph.now c.args.subject.now.group
    c.args.node v (stage_of c.args.self.now)
    (stage_of c.loop-k.self)) e
    (c.loop-k.invariant.1 at now)
