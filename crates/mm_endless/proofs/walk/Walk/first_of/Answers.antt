use Rattle.std.proofs.Common.{◌≡◌, ◌-◌, ℕ, inl, inr, false, List, length, take, drop, slice_index_or, refl, subst, sym, ap, ◌∙◌, arith}
use Rattle.std.{proofs.lemmas.List.{take_more, take_rest, take_all, Elements.{Contains-get_or, Contains-push_cases}}, specs.Prelude.Contains}
use Rattle.mm_endless.specs.{Graphs.children, Stages.{stage_of, HasDone, is_done, IsLeastOf}}
use Rattle.mm_endless.specs.declared.walk.Mark.TheVariants.{Unmet}
use Rattle.mm_endless.proofs.{Closing.first_so, Marks.in_drop}
use Rattle.mm_endless.proofs.walk.Walk.first_of.Goals as goal

-- the members are the finished nodes from an index on
members_are : (xs ys : List ℕ) (from : ℕ) → xs ≡ ys → take (length xs - from) (drop from xs) ≡ drop from ys
members_are xs ys from e = take_rest xs from ∙ ap (drop from) e

pub children-requires : goal.children-requires
children-requires c =
    let xs = c.args.self.now.finished.items in
    let members = take (length c.deref.result.now - c.args.from) (drop c.args.from c.deref.result.now) in
    let x = slice_index_or members c.loop-node.node-index 0 in
    c.requires.nodes x (in_drop c.args.from xs x (subst (λ l. Contains l x) (members_are c.deref.result.now xs c.args.from c.deref.ensures.value) (Contains-get_or members c.loop-node.node-index 0 c.loop-node-test.true)))

pub has_done-requires : goal.has_done-requires
has_done-requires c = λ v inside.
    let members = take (length c.deref.result.now - c.args.from) (drop c.args.from c.deref.result.now) in
    let x = slice_index_or members c.loop-node.node-index 0 in
    let low = c.requires.inside x v (subst (λ l. Contains l v) c.children.ensures inside) in
    let marks = c.requires.marks in
    let same = ap length c.deref-in-loop-node.ensures.value in
    omega (arith, low, marks, same)

pub returns-then-has_done : goal.returns-then-has_done
returns-then-has_done c =
    let xs = c.args.self.now.finished.items in
    let g = c.args.self.now.graph.now in
    let members = take (length c.deref.result.now - c.args.from) (drop c.args.from c.deref.result.now) in
    let x = slice_index_or members c.loop-node.node-index 0 in
    let found : HasDone c.deref-in-loop-node.result.now c.children.result.now = c.if-has_done.ensures.yes refl in
    inl (
      x,
      subst (λ l. Contains l x) (members_are c.deref.result.now xs c.args.from c.deref.ensures.value) (Contains-get_or members c.loop-node.node-index 0 c.loop-node-test.true),
      subst (λ l. HasDone l (children g x)) c.deref-in-loop-node.ensures.value (subst (HasDone c.deref-in-loop-node.result.now) c.children.ensures found),
    )

pub loop-node-preserved : goal.loop-node-preserved
loop-node-preserved c = λ v d inside edge.
    let g = c.args.self.now.graph.now in
    let members = take (length c.deref.result.now - c.args.from) (drop c.args.from c.deref.result.now) in
    let n = c.loop-node.node-index in
    let x = slice_index_or members n 0 in
    elim (Contains-push_cases (take n members) x v (subst (λ l. Contains l v) (take_more members n 0 c.loop-node-test.true) inside)) [
      | inl before ↦ c.loop-node.invariant v d before edge
      | inr e ↦ subst (λ l. is_done (slice_index_or l d Unmet) ≡ false) c.deref-in-loop-node.ensures.value
          (c.if-has_done.ensures.no refl d (subst (λ l. Contains l d) (sym c.children.ensures) (subst (λ y. Contains (children g y) d) (sym e) edge)))
    ]

pub returns : goal.returns
returns c =
    let xs = c.args.self.now.finished.items in
    let g = c.args.self.now.graph.now in
    let members = take (length c.deref.result.now - c.args.from) (drop c.args.from c.deref.result.now) in
    let same = members_are c.deref.result.now xs c.args.from c.deref.ensures.value in
    let past = c.loop-node-test.false in
    first_so g (stage_of c.args.self.now) (drop c.args.from xs) c.least.result
    (subst (λ l. IsLeastOf l c.least.result) same c.least.ensures)
    (λ v d inside edge. c.loop-node.invariant v d (subst (λ l. Contains l v) (sym same ∙ sym (take_all c.loop-node.node-index members (omega (arith, past)))) inside) edge)
