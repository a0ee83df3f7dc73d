use Rattle.std.proofs.Common.{◌∙◌, arith, length-set}
use Rattle.mm_kernel.specs.Threads.{is_kernel}
use Rattle.mm_keep.proofs.Flags.{flags_more}
use Rattle.mm_keep.proofs.kernel.kernel_flags.Goals as goal

pub loop-number-preserved : goal.loop-number-preserved
loop-number-preserved c =
    let l = c.loop-number in
    let long = l.invariant.long in
    record {
      flags = flags_more (is_kernel c.args.image.now c.args.kept.now) l.number l.flags c.is_kernel.result (omega (arith, long)) c.is_kernel.ensures l.invariant.flags;
      long = length-set l.flags l.number c.is_kernel.result ∙ long;
    }
