use Rattle.std.proofs.Common.{◌<◌, length, arith, ◌∙◌}
use Rattle.std.proofs.lemmas.{Grind.common_steps, List.length-set}
use Rattle.mm_keep.specs.Rows.{form_of, numbers_of_form}
use Rattle.mm_keep.proofs.Filled.{filled, filled_back}
use Rattle.mm_keep.proofs.rows.forms_numbers.Goals as goal

pub loop-r-preserved : goal.loop-r-preserved
loop-r-preserved c =
    let l = c.loop-r in
    let lt = c.loop-r-test.true in
    let lx : l.r < length c.args.forms.now = grind (arith, common_steps) in
    let long = l.invariant.long in
    let lo : l.r < length l.numbers = omega (arith, lt, long) in
    record {
      is = filled numbers_of_form c.args.forms.now l.numbers l.r _ c.form_numbers.result lx lo c.form_numbers.ensures.is l.invariant.is;
      again = filled_back form_of c.args.forms.now l.numbers l.r _ c.form_numbers.result lx lo c.form_numbers.ensures.again l.invariant.again;
      long = length-set l.numbers l.r c.form_numbers.result ∙ long;
    }
