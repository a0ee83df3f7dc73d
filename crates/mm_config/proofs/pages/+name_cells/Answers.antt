use Rattle.std.proofs.Common.{◌≡◌, suc, ◌-◌, ◌^◌, ◌++◌, sym, ap, ◌∙◌, arith}
use Rattle.std.proofs.{lemmas.{Nat.one_shl, List.take-append-drop, Result.{IfOk-weaker}}, Math.Nat.pow-suc}
use Rattle.mm_pairs.specs.Named.{IsNameOf}
use Rattle.mm_config.proofs.PageCells.{cells_joined}
use Rattle.mm_config.proofs.pages.+name_cells.Goals as goal

pub split_at-requires : goal.split_at-requires
split_at-requires t c =
    let d = c.args.depth - 1 in
    let small = c.requires.small in
    let is : c.args.depth ≡ suc d = omega arith in
    let half = one_shl d 64 (omega (arith, small)) in
    let twice = ap (λ n. 2 ^ n) is ∙ pow-suc 2 d in
    let count = c.requires.count in
    omega (arith, half, twice, count)

pub name_cells-requires-2 : goal.name_cells-requires-2
name_cells-requires-2 t c =
    let d = c.args.depth - 1 in
    let small = c.requires.small in
    let is : c.args.depth ≡ suc d = omega arith in
    let half = one_shl d 64 (omega (arith, small)) in
    let twice = ap (λ n. 2 ^ n) is ∙ pow-suc 2 d in
    let count = c.requires.count in
    let long = c.split_at.ensures.back_len in
    (omega arith, (omega (arith, half, twice, count, long), omega arith))

pub returns-clause-tree : goal.returns-clause-tree
returns-clause-tree t c =
    let d = c.args.depth - 1 in
    let is : c.args.depth ≡ suc d = omega arith in
    let first = c.split_at.result.0.now in
    let second = c.split_at.result.1.now in
    let both = sym ((λ j. c.split_at.ensures.front j ++ c.split_at.ensures.back j) ∙ take-append-drop _ c.args.cells.now) in
    let left = c.in_ok-left.left in
    let right = c.in_ok-right.right in
    IfOk-weaker c.join.result (λ tree. IsNameOf (0, 0) c.join.new.self tree (left, right)) _
    (λ tree. cells_joined c.name_cells.new.store c.name_cells-2.new.store c.join.new.self d c.args.depth left right tree first second c.args.cells.now is both
    c.in_ok-right.ensures.more c.in_ok-left.ensures.tree c.in_ok-right.ensures.tree c.join.ensures.grown)
    c.join.ensures.name
