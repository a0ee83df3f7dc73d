use Rattle.std.proofs.Common.{◌≡◌, ◌++◌, ◌∷◌, [], List, ℕ, arith, subst, sym}
use Rattle.mm_flow.proofs.{SharedMarks.push_length, Ups.{forest_first, forest_climbed}}
use Rattle.mm_flow.{proofs.forest.parents.Goals.{then-k-eq0, else-k-eq0}, specs.Forest.{IsForest, Climbed}}
use Rattle.mm_flow.proofs.forest.parents.Goals as goal

along : (ends xs ys : List ℕ) (from x none r s : ℕ) → ys ≡ xs → s ≡ r → Climbed ends ys from x none r → Climbed ends xs from x none s
along ends xs ys from x none r s e f c = subst (Climbed ends xs from x none) (sym f) (subst (λ z. Climbed ends z from x none r) e c)

pub loop-k-preserved : goal.loop-k-preserved
loop-k-preserved c =
    let f = c.loop-k.invariant.0 in
    let e = c.loop-k.invariant.1 in
    let more : IsForest c.args.bases.now c.args.ends.now (c.loop-k.par.items ++ c.if-k-eq0.up ∷ []) =
    elim c.if-k-eq0.branch [
      | then-k-eq0 w ↦ forest_first c.args.bases.now c.args.ends.now c.loop-k.par.items c.if-k-eq0.up c.requires f (omega arith) (omega arith)
      | else-k-eq0 w ↦ forest_climbed c.args.bases.now c.args.ends.now c.loop-k.par.items c.if-k-eq0.up c.loop-k.k
          c.requires f e (omega arith) (omega arith) (along _ _ _ _ _ _ _ _ w.deref.ensures.value w.up-is
          w.climb-up.ensures)
    ] in
    rw c.in_ok-push.ensures.items (more, push_length c.loop-k.par.items c.if-k-eq0.up c.loop-k.k e)
