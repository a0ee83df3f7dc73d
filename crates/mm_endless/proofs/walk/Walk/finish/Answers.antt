use Rattle.std.proofs.Common.{ℕ, List, ◌++◌, ◌∷◌, [], refl, subst, sym, ap, ◌∙◌, arith}
use Rattle.std.{proofs.lemmas.List.Elements.Contains-push, specs.Prelude.Contains}
use Rattle.mm_endless.specs.Stages.{Stage, stage_of, IsStage, IsLastOpen}
use Rattle.mm_endless.proofs.{Finishing.{finish_keeps, pop_keeps, no_bound}, Joining.open_inside, Marks.read_as}
use Rattle.mm_endless.proofs.walk.Walk.finish.Goals as goal

pub overflow_cast-node : goal.overflow_cast-node
overflow_cast-node c =
    let low = open_inside c.args.self.now.graph.now (stage_of c.args.self.now) c.requires.stage c.args.node c.requires.last in
    let few = c.requires.few in
    omega (arith, low, few)

pub index-requires : goal.index-requires
index-requires c =
    let low = open_inside c.args.self.now.graph.now (stage_of c.args.self.now) c.requires.stage c.args.node c.requires.last in
    let e = c.requires.stage.numbers in
    let long = c.args.self.now.numbers.ok in
    omega (arith, low, e, long)

pub close-requires-clause-stage : goal.close-requires-clause-stage
close-requires-clause-stage c =
    let s : Stage = stage_of c.args.self.now in
    let g = c.args.self.now.graph.now in
    subst (λ l. IsStage g (record s { finished = l })) (sym c.in_ok-push.ensures.items) (finish_keeps g s c.requires.stage c.args.node c.requires.last c.requires.left)

pub close-requires-clause-set : goal.close-requires-clause-set
close-requires-clause-set c =
    let low = open_inside c.args.self.now.graph.now (stage_of c.args.self.now) c.requires.stage c.args.node c.requires.last in
    let e = c.requires.stage.numbers in
    let number = read_as c.args.self.now.numbers.items c.args.node c.index.result.now 0 (omega (arith, low, e)) c.index.ensures in
    let last = c.if-is_last.ensures.yes refl in
    record {
      last = record { front = c.requires.last.front; is = c.requires.last.is };
      finished = subst (λ l. Contains l c.args.node) (sym c.in_ok-push.ensures.items) (Contains-push c.args.self.now.finished.items c.args.node);
      front = last.0;
      bound = sym c.deref.ensures.value ∙ last.1 ∙ ap (λ n. last.0 ++ n ∷ []) (sym number);
    }

pub returns-else-is_last-clause-stage : goal.returns-else-is_last-clause-stage
returns-else-is_last-clause-stage c =
    let s : Stage = stage_of c.args.self.now in
    let g = c.args.self.now.graph.now in
    let u = c.args.node in
    let last = c.requires.last in
    let low = open_inside g s c.requires.stage u last in
    let e = c.requires.stage.numbers in
    let number = read_as c.args.self.now.numbers.items u c.index.result.now 0 (omega (arith, low, e)) c.index.ensures in
    let finished : List ℕ = c.args.self.now.finished.items ++ u ∷ [] in
    let t : Stage = record s { finished = finished } in
    let k : IsStage g t = finish_keeps g s c.requires.stage u last c.requires.left in
    let here : IsLastOpen t u = record { front = last.front; is = last.is } in
    let none = no_bound g t k u here (λ front is. c.if-is_last.ensures.no refl front (c.deref.ensures.value ∙ is ∙ ap (λ n. front ++ n ∷ []) number)) in
    let popped = pop_keeps g t k u here (Contains-push c.args.self.now.finished.items u) none in
    let opens = c.drop_last.ensures last.front u last.is in
    subst (λ l. IsStage g (record s { finished = l; unfinished = c.drop_last.new.numbers.items })) (sym c.in_ok-push.ensures.items)
    (subst (λ l. IsStage g (record t { unfinished = l })) (sym opens) popped)
