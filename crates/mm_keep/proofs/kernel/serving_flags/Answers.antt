use Rattle.std.proofs.Common.{◌∙◌, arith, length-set}
use Rattle.mm_kernel.specs.Threads.{serves_some}
use Rattle.mm_keep.proofs.Flags.{flags_more}
use Rattle.mm_keep.proofs.kernel.serving_flags.Goals as goal

pub loop-number-preserved : goal.loop-number-preserved
loop-number-preserved c =
    let l = c.loop-number in
    let long = l.invariant.long in
    record {
      flags = flags_more (serves_some c.args.image.now) l.number l.flags c.serves_some.result (omega (arith, long)) c.serves_some.ensures l.invariant.flags;
      long = length-set l.flags l.number c.serves_some.result ∙ long;
    }
