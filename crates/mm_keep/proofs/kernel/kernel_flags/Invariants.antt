use Rattle.std.proofs.Common.{◌≡◌, length}
use Rattle.mm_kernel.specs.Threads.{is_kernel}
use Rattle.mm_keep.specs.Kernels.{AreFlags}
use Rattle.mm_keep.proofs.kernel.kernel_flags.Given as goal

abbrev pub invariant-loop-number : goal.invariant-loop-number
invariant-loop-number l = record {
  flags : AreFlags (is_kernel l.image l.kept) l.number l.flags;
  long : length l.flags ≡ 256;
}
