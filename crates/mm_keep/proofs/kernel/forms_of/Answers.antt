use Rattle.std.proofs.Common.{◌<◌, length, arith, ◌∙◌}
use Rattle.std.proofs.lemmas.{Grind.common_steps, List.length-set}
use Rattle.mm_kernel.specs.Forms.{exactly}
use Rattle.mm_keep.proofs.Filled.{filled}
use Rattle.mm_keep.proofs.kernel.forms_of.Goals as goal

pub loop-r-preserved : goal.loop-r-preserved
loop-r-preserved c =
    let l = c.loop-r in
    let lt = c.loop-r-test.true in
    let lx : l.r < length c.args.words.now = grind (arith, common_steps) in
    let long = l.invariant.long in
    record {
      filled = filled exactly c.args.words.now l.forms l.r _ c.of.result lx (omega (arith, lt, long)) c.of.ensures l.invariant.filled;
      long = length-set l.forms l.r c.of.result ∙ long;
    }
