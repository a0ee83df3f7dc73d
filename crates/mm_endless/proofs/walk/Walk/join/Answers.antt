use Rattle.std.proofs.Common.{◌≡◌, ◌++◌, ◌∷◌, [], subst, sym, ap, ◌∙◌, arith}
use Rattle.std.specs.Prelude.{Contains}
use Rattle.mm_endless.specs.{Graphs.children, Stages.{Stage, stage_of, number_of, IsStage}}
use Rattle.mm_endless.proofs.{Joining.{bounds_below, join_step}, Marks.{path_inside, read_as}}
use Rattle.mm_endless.proofs.walk.Walk.join.Goals as goal

pub returns-then-bound-number-clause-last : goal.returns-then-bound-number-clause-last
returns-then-bound-number-clause-last c = λ b there.
    let old : Stage = stage_of c.args.self.now in
    let k = c.requires.stage in
    let now = c.loop-bound.self in
    let low = path_inside old c.args.node c.requires.path in
    let marks = k.marks in
    let numbers = k.numbers in
    let number = read_as c.args.self.now.numbers.items c.args.node c.index-number.result.now 0 (omega (arith, low, marks, numbers)) c.index-number.ensures in
    let same = ap (λ (x : Stage). number_of x c.args.node) c.loop-bound.invariant.same in
    let le = c.if-bound-number.true in
    let pushed = c.in-Some.ensures in
    let up = bounds_below now.bounds.items pushed.0 c.in-Some.bound c.index-number.result.now c.loop-bound.invariant.stage.bounds (sym c.deref.ensures.value ∙ pushed.1) (omega (arith, le)) b there in
    omega (arith, up, number, same)

pub loop-bound-preserved : goal.loop-bound-preserved
loop-bound-preserved c =
    let old : Stage = stage_of c.args.self.now in
    let k = c.requires.stage in
    let now = c.loop-bound.self in
    let inv = c.loop-bound.invariant in
    let low = path_inside old c.args.node c.requires.path in
    let marks = k.marks in
    let numbers = k.numbers in
    let number = read_as c.args.self.now.numbers.items c.args.node c.index-number.result.now 0 (omega (arith, low, marks, numbers)) c.index-number.ensures in
    let past = c.if-bound-number.false in
    let pushed = c.in-Some.ensures in
    let is : now.bounds.items ≡ pushed.0 ++ c.in-Some.bound ∷ [] = sym c.deref.ensures.value ∙ pushed.1 in
    let left : c.drop_last.new.numbers.items ≡ pushed.0 = c.drop_last.ensures pushed.0 c.in-Some.bound is in
    let child = c.requires.child in
    let stage = join_step now.graph.now old (stage_of now) inv.stage inv.same child.node c.args.node child.last
    (subst (λ g. Contains (children g child.node) c.args.node) (sym inv.graph) child.edge) c.requires.path pushed.0 c.in-Some.bound is (omega (arith, number, past)) in
    record {
      stage = subst (λ l. IsStage now.graph.now (record (stage_of now) { bounds = l })) (sym left) stage;
      same = λ j. record (inv.same j) { bounds = c.drop_last.new.numbers.items };
      graph = inv.graph;
    }
