use Rattle.std.proofs.{Common.{◌++◌, List, ℕ, sym, ap, ◌∙◌, arith}, lemmas.{Grind.common_steps, List.take_all}}
use Rattle.std.specs.List.{flat_map}
use Rattle.mm_format.proofs.Lists.{each_own}
use Rattle.mm_object.specs.{declared.thread.Value.Value, Format.{value_row, is_tagged}}
use Rattle.mm_object.proofs.writing.put_values.Goals as goal

pub loop-value-preserved : goal.loop-value-preserved
loop-value-preserved c = grind (arith, common_steps)

pub returns : goal.returns
returns c =
    let values = c.args.values.now in
    let old = c.args.out.now.items in
    c.loop-value.invariant
    ∙ ap (λ (vs : List Value). old ++ flat_map (λ v. (value_row (is_tagged v)).spell v) vs)
    (take_all c.loop-value.value-index values c.loop-value-test.false)
    ∙ ap (λ (t : List ℕ). old ++ t) (sym (each_own value_row is_tagged values))
