use Rattle.std.proofs.Common.{take}
use Rattle.mm_object.specs.Fits.{AreWhole}
use Rattle.mm_object.proofs.threads.hold_values.Given as goal

abbrev pub invariant-loop-thread : goal.invariant-loop-thread
invariant-loop-thread l = AreWhole (take l.thread-index l.threads)
