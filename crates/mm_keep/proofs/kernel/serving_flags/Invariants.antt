use Rattle.std.proofs.Common.{◌≡◌, length}
use Rattle.mm_kernel.specs.Threads.{serves_some}
use Rattle.mm_keep.specs.Kernels.{AreFlags}
use Rattle.mm_keep.proofs.kernel.serving_flags.Given as goal

abbrev pub invariant-loop-number : goal.invariant-loop-number
invariant-loop-number l = record {
  flags : AreFlags (serves_some l.image) l.number l.flags;
  long : length l.flags ≡ 256;
}
