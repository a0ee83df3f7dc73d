use Rattle.std.proofs.Common.{◌≡◌, suc, ◌-◌, refl, subst, arith}
use Rattle.mm_config.specs.Noting.{HaveSamePlaces}
use Rattle.mm_config.proofs.SamePlaces.{same_halves}
use Rattle.mm_config.proofs.pages.+has_same_places.Goals as goal

pub other_has_same_places-returns-then-was_left-left : goal.other_has_same_places-returns-then-was_left-left
other_has_same_places-returns-then-was_left-left t c = λ yes.
    let d = c.args.depth - 1 in
    let some = c.if-depth-eq0.false in
    let is : c.args.depth ≡ suc d = omega (arith, some) in
    let left : HaveSamePlaces c.args.pairs.now d c.parts-was_left.result.0 c.parts-left.result.0 =
    subst (HaveSamePlaces c.args.pairs.now d c.parts-was_left.result.0) c.if-was_left-left.true (λ at. refl) in
    same_halves c.args.pairs.now c.args.depth d c.args.was c.args.tree c.parts-was_left.result c.parts-left.result is c.parts-was_left.ensures c.parts-left.ensures
    left (c.has_same_places.ensures yes)

pub other_has_same_places-returns : goal.other_has_same_places-returns
other_has_same_places-returns t c = λ yes.
    let d = c.args.depth - 1 in
    let some = c.if-depth-eq0.false in
    let is : c.args.depth ≡ suc d = omega (arith, some) in
    same_halves c.args.pairs.now c.args.depth d c.args.was c.args.tree c.parts-was_left.result c.parts-left.result is c.parts-was_left.ensures c.parts-left.ensures
    (c.has_same_places-3.ensures yes) (c.has_same_places-2.ensures c.if-not-has_same_places.false)
