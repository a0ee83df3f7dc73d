use Rattle.std.proofs.Common.{◌≡◌, suc, ◌-◌, ◌<◌, ◌≤◌, ◌^◌, slice_set, subst, arith}
use Rattle.std.proofs.lemmas.{Nat.one_shl, Result.IfOk-weaker}
use Rattle.mm_pairs.specs.{Named.IsNameOf, Trees.{leaves, HasLeaves}}
use Rattle.mm_pairs.proofs.Names.{set_left, set_right}
use Rattle.mm_pairs.proofs.pairs.Pairs.+with_leaf.Goals as goal

pub returns-in_ok-left-clause-leaves : goal.returns-in_ok-left-clause-leaves
returns-in_ok-left-clause-leaves t c =
    let d = c.args.depth - 1 in
    let small = c.requires.depth in
    let is : c.args.depth ≡ suc d = omega arith in
    let half = one_shl d 64 (omega (arith, small)) in
    let low : c.args.place < 2 ^ d = omega (arith, half, c.if-place-half.true) in
    let name = c.in_ok-left.left in
    IfOk-weaker c.join.result (λ t. IsNameOf (0, 0) c.join.new.self t (name, c.parts-left.result.1)) _
    (λ t. set_left c.args.self.now c.args.depth d c.args.tree c.args.place c.parts-left.result is c.parts-left.ensures
    c.with_leaf.new.self c.join.new.self c.args.leaf t c.with_leaf.ensures.grown c.join.ensures.grown c.requires.tree name low c.in_ok-left.ensures.leaves)
    c.join.ensures.name

pub returns-in_ok-right-clause-leaves : goal.returns-in_ok-right-clause-leaves
returns-in_ok-right-clause-leaves t c =
    let d = c.args.depth - 1 in
    let small = c.requires.depth in
    let is : c.args.depth ≡ suc d = omega arith in
    let half = one_shl d 64 (omega (arith, small)) in
    let high : 2 ^ d ≤ c.args.place = omega (arith, half, c.if-place-half.false) in
    let name = c.in_ok-right.right in
    let later = c.with_leaf-else-place-half in
    let join = c.join-else-place-half in
    let made = subst (λ n. HasLeaves later.new.self d name (slice_set (leaves c.args.self.now d c.parts-left.result.1) (c.args.place - n) c.args.leaf)) half c.in_ok-right.ensures.leaves in
    IfOk-weaker join.result (λ t. IsNameOf (0, 0) join.new.self t (c.parts-left.result.0, name)) _
    (λ t. set_right c.args.self.now c.args.depth d c.args.tree c.args.place c.parts-left.result is c.parts-left.ensures
    later.new.self join.new.self c.args.leaf t later.ensures.grown join.ensures.grown c.requires.tree name high made)
    join.ensures.name
