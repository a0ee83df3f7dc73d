use Rattle.std.proofs.Common.{◌<◌, length, arith, ◌∙◌}
use Rattle.std.proofs.lemmas.{Grind.common_steps, List.length-set}
use Rattle.mm_keep.specs.Rows.{form_of}
use Rattle.mm_keep.proofs.Filled.{filled}
use Rattle.mm_keep.proofs.rows.forms.Goals as goal

pub loop-r-preserved : goal.loop-r-preserved
loop-r-preserved c =
    let l = c.loop-r in
    let lt = c.loop-r-test.true in
    let lx : l.r < length c.args.numbers.now = grind (arith, common_steps) in
    let long = l.invariant.long in
    record {
      filled = filled form_of c.args.numbers.now l.forms l.r _ c.form.result lx (omega (arith, lt, long)) c.form.ensures l.invariant.filled;
      long = length-set l.forms l.r c.form.result ∙ long;
    }
