use Rattle.std.proofs.Common.{refl}
use Rattle.mm_why.{specs.Searches.stage_of, proofs.Searching.{placed_as, placed_before}}
use Rattle.mm_why.proofs.search.Search.reach.Goals as goal

pub returns-then-has_line-clause-reached : goal.returns-then-has_line-clause-reached
returns-then-has_line-clause-reached c = λ i keys rising now at follows.
    placed_before i keys c.args.group (stage_of c.args.self.now) c.args.node now (c.if-has_line.ensures.placed refl)

pub returns-clause-reached : goal.returns-clause-reached
returns-clause-reached c = λ i keys rising now at follows.
    placed_as i keys c.args.group (stage_of c.args.self.now) (stage_of c.place.new.self) c.args.node
    (record { group = c.args.group; pointer = c.args.pointer; rule = c.args.rule }) rising now (c.if-has_line.ensures.none refl) at refl follows
    c.in_ok-place.ensures.lines c.in_ok-place.ensures.places c.in_ok-place.ensures.queue
