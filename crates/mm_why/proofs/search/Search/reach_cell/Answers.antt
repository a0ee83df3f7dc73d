use Rattle.std.proofs.Common.{length, slice_index, sym, subst, refl}
use Rattle.mm_why.specs.{Derivations.Follows, Searches.{stage_of, AtNode, IsPlaced}}
use Rattle.mm_why.proofs.{Searching.placed_before, GraphFacts.{rising, cell_now}}
use Rattle.mm_why.specs.declared.line.Rule.TheVariants as rules
use Rattle.mm_why.proofs.search.Search.reach_cell.Goals as goal

pub returns-then-has_line-clause-placed : goal.returns-then-has_line-clause-placed
returns-then-has_line-clause-placed c = λ a at lo hi now.
    placed_before c.args.subject.now.image.now c.args.subject.now.graph.now.keys.items c.args.subject.now.group
    (stage_of c.args.self.now) (slice_index c.args.subject.now.graph.now.targets.items
    c.args.k) now
    (subst (IsPlaced c.args.self.now.places.items) c.target_of-to.ensures (c.if-has_line.ensures.placed refl))

pub returns-clause-placed : goal.returns-clause-placed
returns-clause-placed c = λ a at lo hi now.
    let f = c.pointer_at-pointer.ensures in
    let follows = cell_now c.args.subject.now.image.now c.args.subject.now.graph.now c.requires.graph
    c.args.subject.now.group a c.args.by c.args.k (stage_of c.args.self.now)
    c.pointer_at-pointer.result at now f lo hi in
    let h = c.in_ok-reach.ensures.reached c.args.subject.now.image.now c.args.subject.now.graph.now.keys.items (rising c.args.subject.now.image.now c.args.subject.now.graph.now c.requires.graph) now
    (subst (λ v. AtNode c.args.subject.now.graph.now.keys.items v c.pointer_at-pointer.result) (sym c.target_of-to.ensures) f.node)
    (subst (λ v. Follows c.args.subject.now.image.now c.args.self.now.lines.items (length c.args.self.now.lines.items)
    c.args.subject.now.group c.pointer_at-pointer.result (rules.Cell v c.args.by)) (sym c.word_at-word.ensures)
    follows) in
    (h.0, subst (IsPlaced c.reach.new.self.places.items) c.target_of-to.ensures h.1)
