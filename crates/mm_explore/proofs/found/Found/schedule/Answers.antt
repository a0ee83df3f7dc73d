use Rattle.std.proofs.Common.{[], ◌∷◌, length, refl, sym, ap, arith, ◌∙◌}
use Rattle.mm_explore.proofs.Spelled.{length_spelled, one_read, all_read}
use Rattle.mm_explore.proofs.found.Found.schedule.Goals as goal

pub index-origin-requires : goal.index-origin-requires
index-origin-requires c =
    let long = length_spelled ([] ∷ []) c.self.inside.origins.items in
    let same = ap length c.self.view_is in
    let low = c.loop-at.invariant.low in
    let some = c.loop-at-test.true in
    omega (arith, long, same, low, some)

pub loop-at-smaller : goal.loop-at-smaller
loop-at-smaller c =
    (one_read c.args.self.now c.self.inside.origins.items c.self.view_is c.self.invariant
    c.loop-at.at c.index-origin.result.now c.loop-at-test.true c.loop-at.invariant.low c.index-origin.ensures c.loop-at.items.items c.push-in-loop-at.new.self.items c.in_ok-push-2.ensures.items).1

pub loop-at-preserved : goal.loop-at-preserved
loop-at-preserved c =
    let one = one_read c.args.self.now c.self.inside.origins.items c.self.view_is c.self.invariant
    c.loop-at.at c.index-origin.result.now c.loop-at-test.true c.loop-at.invariant.low c.index-origin.ensures c.loop-at.items.items c.push-in-loop-at.new.self.items c.in_ok-push-2.ensures.items in
    let less = one.1 in
    let low = c.loop-at.invariant.low in
    record { spells = one.0 ∙ c.loop-at.invariant.spells; low = omega (arith, less, low); same = refl }

pub returns : goal.returns
returns c =
    let left = c.loop-at-test.false in
    c.reverse.ensures.items ∙ sym (all_read c.args.self.now c.self.inside.origins.items c.self.view_is c.loop-at.at
    (omega (arith, left)) c.loop-at.items.items)
    ∙ c.loop-at.invariant.spells
