use Rattle.std.proofs.Common.{◌≡◌, ◌<◌, ◌-◌, ℕ, zero, suc, refl, length, subst, sym, ap, ◌∙◌, arith}
use Rattle.std.proofs.lemmas.List.{Elements.Contains-get_or, Sums.sum_by-set}
use Rattle.std.specs.{Prelude.{Contains, slice_index_or}, List.sum_by}
use Rattle.mm_endless.specs.{Graphs.children, Stages.{Stage, stage_of}}
use Rattle.mm_endless.proofs.{Joining.{last_on_path, open_inside}, Looking.look_keeps, Marks.{read_as}}
use Rattle.mm_endless.proofs.walk.Walk.step.Goals as goal

above : (n : ℕ) → (n ≡ 0 → ⊥) → 0 < n
above zero h = absurd (h refl)
above (suc n) h = omega arith

pub index-left-requires : goal.index-left-requires
index-left-requires c =
    let low = open_inside c.args.self.now.graph.now (stage_of c.args.self.now) c.requires.stage c.args.node c.requires.last in
    let e = c.requires.stage.lefts in
    let long = c.args.self.now.left.ok in
    omega (arith, low, e, long)

pub children-requires : goal.children-requires
children-requires c = open_inside c.args.self.now.graph.now (stage_of c.args.self.now) c.requires.stage c.args.node c.requires.last

pub bounds-children-left : goal.bounds-children-left
bounds-children-left c =
    let s : Stage = stage_of c.args.self.now in
    let g = c.args.self.now.graph.now in
    let k = c.requires.stage in
    let low = open_inside g s k c.args.node c.requires.last in
    let e = k.lefts in
    let left = read_as c.args.self.now.left.items c.args.node c.index-left.result.now 0 (omega (arith, low, e)) c.index-left.ensures in
    let few = k.few c.args.node (last_on_path g s k c.args.node c.requires.last) in
    let some = above c.index-left.result.now c.if-left-eq0.false in
    let long = ap length c.children.ensures in
    omega (arith, left, few, some, long)

pub look_at-requires-clause-child : goal.look_at-requires-clause-child
look_at-requires-clause-child c =
    let s : Stage = stage_of c.args.self.now in
    let g = c.args.self.now.graph.now in
    let k = c.requires.stage in
    let low = open_inside g s k c.args.node c.requires.last in
    let e = k.lefts in
    let left = read_as c.args.self.now.left.items c.args.node c.index-left.result.now 0 (omega (arith, low, e)) c.index-left.ensures in
    let few = k.few c.args.node (last_on_path g s k c.args.node c.requires.last) in
    let some = above c.index-left.result.now c.if-left-eq0.false in
    let long = ap length c.children.ensures in
    let n = c.index-left.result.now - 1 in
    record {
      node = c.args.node;
      last = c.requires.last;
      edge = subst (λ l. Contains l (slice_index_or c.children.result.now n 0)) c.children.ensures (Contains-get_or c.children.result.now n 0 (omega (arith, left, few, some, long)));
    }

pub index_mut-requires : goal.index_mut-requires
index_mut-requires c =
    let low = open_inside c.args.self.now.graph.now (stage_of c.args.self.now) c.requires.stage c.args.node c.requires.last in
    let e = c.requires.stage.lefts in
    let same = ap length c.look_at.ensures.left in
    let long = c.look_at.new.self.left.ok in
    omega (arith, low, e, same, long)

pub returns-clause-stage : goal.returns-clause-stage
returns-clause-stage c =
    let s : Stage = stage_of c.args.self.now in
    let g = c.args.self.now.graph.now in
    let k = c.requires.stage in
    let u = c.args.node in
    let n = c.index-left.result.now - 1 in
    let low = open_inside g s k u c.requires.last in
    let e = k.lefts in
    let left = read_as c.args.self.now.left.items u c.index-left.result.now 0 (omega (arith, low, e)) c.index-left.ensures in
    let some = above c.index-left.result.now c.if-left-eq0.false in
    let now = c.look_at.new.self in
    let after = c.in_ok-look_at.ensures in
    let here = ap (λ xs. slice_index_or xs u 0) c.look_at.ensures.left in
    look_keeps now.graph.now (stage_of now) after.stage u n (slice_index_or c.children.result.now n 0)
    (after.path u (last_on_path g s k u c.requires.last)) (omega (arith, here, left, some))
    (ap (λ h. slice_index_or (children h u) n 0) after.graph ∙ ap (λ l. slice_index_or l n 0) (sym c.children.ensures)) after.looked

pub returns-clause-smaller : goal.returns-clause-smaller
returns-clause-smaller c =
    let s : Stage = stage_of c.args.self.now in
    let g = c.args.self.now.graph.now in
    let k = c.requires.stage in
    let u = c.args.node in
    let n = c.index-left.result.now - 1 in
    let xs = c.look_at.new.self.left.items in
    let low = open_inside g s k u c.requires.last in
    let e = k.lefts in
    let left = read_as c.args.self.now.left.items u c.index-left.result.now 0 (omega (arith, low, e)) c.index-left.ensures in
    let some = above c.index-left.result.now c.if-left-eq0.false in
    let same = ap length c.look_at.ensures.left in
    let here = ap (λ l. slice_index_or l u 0) c.look_at.ensures.left in
    let was = ap (sum_by (λ n. n)) c.look_at.ensures.left in
    let total = sum_by-set (λ m. m) xs u n 0 (omega (arith, low, e, same)) in
    let more = c.in_ok-look_at.ensures.unfinished in
    omega (arith, left, some, here, was, total, more)
