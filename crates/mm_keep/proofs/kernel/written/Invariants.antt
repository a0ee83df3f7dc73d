use Rattle.std.proofs.Common.{take}
use Rattle.mm_keep.specs.Kernels.{CoversWritten}
use Rattle.mm_keep.proofs.kernel.written.Given as goal

abbrev pub invariant-loop-p : goal.invariant-loop-p
invariant-loop-p l = CoversWritten (take l.p-index l.pointers) l.set
