use Rattle.std.proofs.{Common.{◌++◌, List, take, sym, ap, subst, ◌∙◌, append_assoc}, lemmas.List.take_all}
use Rattle.std.specs.List.{flat_map}
use Rattle.mm_object.specs.{declared.thread.Value.Value, Objects.value_targets, Fits.HoldsUses}
use Rattle.mm_object.proofs.{Bools.flat_map-more, Used.no_more}
use Rattle.mm_object.proofs.uses.mark_values.Goals as goal

pub loop-value-init : goal.loop-value-init
loop-value-init c = λ before holds. no_more c.args.used.now c.args.segments before holds

pub loop-value-preserved : goal.loop-value-preserved
loop-value-preserved c = λ before holds.
    let l = c.loop-value in
    let more = append_assoc before (flat_map value_targets (take l.value-index c.args.values.now)) _
    ∙ ap (λ ts. before ++ ts) (sym (flat_map-more value_targets c.args.values.now l.value-index _
    c.loop-value-test.true)) in
    subst (HoldsUses c.mark_value.new.used c.args.segments) more (c.mark_value.ensures (before ++ flat_map value_targets (take l.value-index c.args.values.now)) (l.invariant before holds))

pub returns : goal.returns
returns c = λ before holds.
    let all = take_all c.loop-value.value-index c.args.values.now c.loop-value-test.false in
    subst (λ (vs : List Value). HoldsUses c.loop-value.used c.args.segments (before ++ flat_map value_targets vs)) all (c.loop-value.invariant before holds)
