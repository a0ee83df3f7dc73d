use Rattle.std.proofs.Common.{◌≡◌, ◌≢◌, Some, sym, ap, ◌∙◌, subst}
use Rattle.mm_word.specs.Pointer.{enter_result}
use Rattle.mm_flow.specs.Edges.{node_at}
use Rattle.mm_why.specs.{Derivations.line_at, Searches.{stage_of, AtNode, IsPlaced}}
use Rattle.mm_why.proofs.{Searching.advances_same, GraphFacts.{rising, entry_follows, entry_never}}
use Rattle.mm_why.proofs.search.Search.reach_entry.Goals as goal

pub returns-in_ok-reach-in-Some-clause-placed : goal.returns-in_ok-reach-in-Some-clause-placed
returns-in_ok-reach-in-Some-clause-placed c = λ at now.
    let some : (node_at c.args.subject.now.graph.now.nodes.items c.args.node).enters ≢ 0 = subst (λ v. v.enters ≢ 0) c.node_of-gate.ensures c.if-gate-eq0.false in
    let line = rw c.deref.ensures.value at c.pointer_of.ensures in
    let is : enter_result (line_at c.args.self.now.lines.items c.args.by).pointer ≡ Some c.in-Some.pointer = ap enter_result (sym line) ∙ sym c.in-Some.ensures.value in
    let f = entry_follows c.args.subject.now.image.now c.args.subject.now.graph.now c.requires.graph
    c.args.subject.now.group c.args.node c.args.by (stage_of c.args.self.now) at now some
    c.in-Some.pointer is in
    let h = c.in_ok-reach-in-Some.ensures.reached c.args.subject.now.image.now c.args.subject.now.graph.now.keys.items
    (rising c.args.subject.now.image.now c.args.subject.now.graph.now c.requires.graph) now
    (subst (λ v. AtNode c.args.subject.now.graph.now.keys.items v.entry c.in-Some.pointer) (sym c.node_of-gate.ensures) f.1) f.0 in
    (h.0, λ x. subst (λ v. IsPlaced c.reach.new.self.places.items v.entry) c.node_of-gate.ensures h.1)

pub returns-in-None-clause-placed : goal.returns-in-None-clause-placed
returns-in-None-clause-placed c = λ at now. (
  advances_same c.args.subject.now.image.now c.args.subject.now.graph.now.keys.items c.args.subject.now.group (stage_of c.args.self.now) now,
  λ some.
      absurd (entry_never c.args.subject.now.image.now c.args.subject.now.graph.now c.requires.graph
      c.args.subject.now.group c.args.node c.args.by (stage_of c.args.self.now) at now some
      (ap enter_result (sym (rw c.deref.ensures.value at c.pointer_of.ensures)) ∙ sym c.in-None.ensures.value)),
)
