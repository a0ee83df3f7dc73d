use Rattle.std.proofs.Common.{◌≡◌, ◌<◌, Some, length, arith}
use Rattle.mm_flow.specs.Edges.{node_at}
use Rattle.mm_why.{specs.Searches.{stage_of, place_at}, proofs.Searching.{advances_trans, line_at_node, stays_placed}}
use Rattle.mm_why.proofs.search.Search.expand.Goals as goal

pub reach_entry-requires-clause-by : goal.reach_entry-requires-clause-by
reach_entry-requires-clause-by c =
    let h = c.requires.placed in
    let small : c.args.node < length c.args.self.now.places.items = (let s = (c.requires.now.placed c.args.node h.0 h.1).2.small in let l = c.requires.now.len in omega (arith, s, l)) in
    (c.requires.now.placed c.args.node c.in-Some.by (line_at_node c.args.self.now.places.items c.args.node c.index.result.now c.in-Some.by small c.index.ensures c.in-Some.is)).0

pub returns : goal.returns
returns c =
    let h = c.requires.placed in
    let small : c.args.node < length c.args.self.now.places.items = (let s = (c.requires.now.placed c.args.node h.0 h.1).2.small in let l = c.requires.now.len in omega (arith, s, l)) in
    let at : place_at c.args.self.now.places.items c.args.node ≡ Some c.in-Some.by = line_at_node c.args.self.now.places.items c.args.node c.index.result.now c.in-Some.by small c.index.ensures c.in-Some.is in
    let e = c.in_ok-reach_entry.ensures.placed at c.requires.now in
    let r = c.in_ok-reach_cells.ensures.placed (e.0.further.places c.args.node c.in-Some.by at) e.0.now in (
      advances_trans c.args.subject.now.image.now c.args.subject.now.graph.now.keys.items c.args.subject.now.group
          (stage_of c.args.self.now)
          (stage_of c.reach_entry.new.self)
          (stage_of c.reach_cells.new.self) e.0 r.advances,
      record {
        cells = r.cells;
        entry = λ some. stays_placed (stage_of c.reach_entry.new.self) (stage_of c.reach_cells.new.self)
            (node_at c.args.subject.now.graph.now.nodes.items c.args.node).entry r.advances.further (e.1 some);
      },
    )
