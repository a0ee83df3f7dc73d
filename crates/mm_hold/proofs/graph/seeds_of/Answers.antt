use Rattle.std.proofs.Common.{[], ◌≡◌}
use Rattle.std.{proofs.lemmas.Map.Iter.{rest_all, rest_more}, specs.{List.flat_map, Map.Iter.deref}}
use Rattle.mm_hold.specs.Graphs.{had_seeds}
use Rattle.mm_hold.proofs.Walked.{walk_more, walk_all}
use Rattle.mm_hold.proofs.graph.seeds_of.Goals as goal

pub loop-had-preserved : goal.loop-had-preserved
loop-had-preserved c =
    let l = c.loop-had in
    let f = had_seeds c.args.kernel.now.image c.args.kernel.now.kept in
    let is = rest_more deref l.had-iterator c.next.new.self c.next.result c.in-Some.had c.in-Some.is c.next.ensures.steps in
    record {
      items = walk_more f (flat_map f c.args.conduct.now.has.keys) l.seeds.items c.add_had.new.seeds.items l.had-iterator c.next.new.self c.in-Some.had.now is l.invariant.items
          c.in_ok-add_had.ensures.items;
      keys = c.in_ok-add_had.ensures.keys;
    }

pub returns-clause-items : goal.returns-clause-items
returns-clause-items c =
    let l = c.loop-had in
    let f = had_seeds c.args.kernel.now.image c.args.kernel.now.kept in
    let none : l.had-iterator ≡ [] = rest_all deref l.had-iterator c.next.new.self c.next.result c.in-None.is c.next.ensures.steps in
    walk_all f (flat_map f c.args.conduct.now.has.keys) l.seeds.items l.had-iterator none l.invariant.items
