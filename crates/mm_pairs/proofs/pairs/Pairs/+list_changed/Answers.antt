use Rattle.std.proofs.Common.{◌≡◌, suc, ◌+◌, ◌-◌, ◌^◌, [], ◌++◌, ◌∙◌, refl, sym, ap, arith}
use Rattle.std.proofs.lemmas.{List.append-nil, Nat.one_shl, Result.on_ok_weaker}
use Rattle.std.proofs.Math.Nat.{pow-suc}
use Rattle.mm_pairs.specs.Trees.{leaves, changed}
use Rattle.mm_pairs.proofs.{Names.two, Changes.{changed_none, listed}}
use Rattle.mm_pairs.proofs.pairs.Pairs.+list_changed.Goals as goal

pub list_changed-returns-then-was-tree : goal.list_changed-returns-then-was-tree
list_changed-returns-then-was-tree t c =
    let names = leaves c.args.self.now c.args.depth c.args.tree in
    sym (append-nil c.args.out.now.items) ∙ ap (λ l. c.args.out.now.items ++ l)
    (sym (ap (λ n. changed c.args.first (leaves c.args.self.now c.args.depth n) names) c.if-was-tree.true ∙ changed_none c.args.first names))

pub list_other-list_changed-requires : goal.list_other-list_changed-requires
list_other-list_changed-requires t c =
    let d = c.args.depth - 1 in
    let small = c.requires.depth in
    let room = c.requires.room in
    let is : c.args.depth ≡ suc d = omega arith in
    let twice = ap (λ n. 2 ^ n) is in
    let more = pow-suc 2 d in
    let now = c.args.self.now in
    let inner_was = (two now c.args.depth d c.args.was 0 c.parts-was_left.result is c.parts-was_left.ensures c.requires.was).0 in
    let inner_tree = (two now c.args.depth d c.args.tree 0 c.parts-left.result is c.parts-left.ensures c.requires.tree).0 in
    (omega arith, (inner_was, (inner_tree, (omega arith, omega (arith, twice, more, room)))))

pub list_other-list_changed-requires-2 : goal.list_other-list_changed-requires-2
list_other-list_changed-requires-2 t c =
    let d = c.args.depth - 1 in
    let small = c.requires.depth in
    let room = c.requires.room in
    let is : c.args.depth ≡ suc d = omega arith in
    let twice = ap (λ n. 2 ^ n) is in
    let more = pow-suc 2 d in
    let now = c.args.self.now in
    let inner_was = (two now c.args.depth d c.args.was 0 c.parts-was_left.result is c.parts-was_left.ensures c.requires.was).0 in
    let inner_tree = (two now c.args.depth d c.args.tree 0 c.parts-left.result is c.parts-left.ensures c.requires.tree).0 in
    (omega arith, (inner_was, (inner_tree, (omega arith, omega (arith, twice, more, room)))))

pub list_other-list_changed-requires-3 : goal.list_other-list_changed-requires-3
list_other-list_changed-requires-3 t c =
    let d = c.args.depth - 1 in
    let small = c.requires.depth in
    let room = c.requires.room in
    let is : c.args.depth ≡ suc d = omega arith in
    let half = one_shl d 64 (omega (arith, small)) in
    let twice = ap (λ n. 2 ^ n) is in
    let more = pow-suc 2 d in
    let now = c.args.self.now in
    let inner_was = (two now c.args.depth d c.args.was 0 c.parts-was_left.result is c.parts-was_left.ensures c.requires.was).1 in
    let inner_tree = (two now c.args.depth d c.args.tree 0 c.parts-left.result is c.parts-left.ensures c.requires.tree).1 in
    (omega arith, (inner_was, (inner_tree, (omega arith, omega (arith, half, twice, more, room)))))

pub list_other-returns-then-was_right-right : goal.list_other-returns-then-was_right-right
list_other-returns-then-was_right-right t c =
    let d = c.args.depth - 1 in
    let small = c.requires.depth in
    let is : c.args.depth ≡ suc d = omega arith in
    let half = one_shl d 64 (omega (arith, small)) in
    let names = leaves c.args.self.now d c.parts-left.result.1 in
    let none : changed (c.args.first + 2 ^ d) (leaves c.args.self.now d c.parts-was_left.result.1) names ≡ [] =
    ap (λ n. changed (c.args.first + 2 ^ d) (leaves c.args.self.now d n) names) c.if-was_right-right.true ∙ changed_none (c.args.first + 2 ^ d) names in
    on_ok_weaker c.list_changed.result
    (λ h. listed c.args.self.now c.args.depth d c.args.first (2 ^ d) c.args.was c.args.tree c.parts-was_left.result c.parts-left.result is c.parts-was_left.ensures c.parts-left.ensures refl
    c.args.out.now.items c.list_changed.new.out.items c.list_changed.new.out.items h (sym (ap (λ l. c.list_changed.new.out.items ++ l) none ∙ append-nil c.list_changed.new.out.items)))
    c.list_changed.ensures

pub list_other-returns : goal.list_other-returns
list_other-returns t c =
    let d = c.args.depth - 1 in
    let small = c.requires.depth in
    let is : c.args.depth ≡ suc d = omega arith in
    let half = one_shl d 64 (omega (arith, small)) in
    on_ok_weaker c.list_changed-3.result
    (listed c.args.self.now c.args.depth d c.args.first _ c.args.was c.args.tree c.parts-was_left.result c.parts-left.result is c.parts-was_left.ensures c.parts-left.ensures half
    c.args.out.now.items c.list_changed-2.new.out.items c.list_changed-3.new.out.items c.in_ok-list_changed.ensures)
    c.list_changed-3.ensures
