use Rattle.std.proofs.Common.{◌≡◌, suc, ◌-◌, ◌<◌, ◌≤◌, ◌^◌, ◌∙◌, ap, slice_index_or, arith}
use Rattle.std.proofs.lemmas.Nat.{one_shl}
use Rattle.mm_pairs.specs.Trees.{leaves}
use Rattle.mm_pairs.proofs.Names.{leaf_left, leaf_right}
use Rattle.mm_pairs.proofs.pairs.Pairs.+leaf.Goals as goal

pub returns-then-place-half : goal.returns-then-place-half
returns-then-place-half t c =
    let d = c.args.depth - 1 in
    let small = c.requires.depth in
    let is : c.args.depth ≡ suc d = omega arith in
    let half = one_shl d 64 (omega (arith, small)) in
    let low : c.args.place < 2 ^ d = omega (arith, half, c.if-place-half.true) in
    c.leaf.ensures ∙ leaf_left c.args.self.now c.args.depth d c.args.tree c.args.place c.parts-left.result is c.parts-left.ensures low

pub returns-else-place-half : goal.returns-else-place-half
returns-else-place-half t c =
    let d = c.args.depth - 1 in
    let small = c.requires.depth in
    let is : c.args.depth ≡ suc d = omega arith in
    let half = one_shl d 64 (omega (arith, small)) in
    let high : 2 ^ d ≤ c.args.place = omega (arith, half, c.if-place-half.false) in
    c.leaf-else-place-half.ensures
    ∙ ap (λ n. slice_index_or (leaves c.args.self.now d c.parts-left.result.1) (c.args.place - n) 0) half
    ∙ leaf_right c.args.self.now c.args.depth d c.args.tree c.args.place c.parts-left.result is c.parts-left.ensures high
