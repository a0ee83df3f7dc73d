use Rattle.std.{proofs.Common.{◌≡◌, take}, specs.List.flat_map}
use Rattle.mm_asm.specs.Names.{thread_uses}
use Rattle.mm_asm.proofs.text_order.threads_uses.Given as goal

abbrev pub invariant-loop-thread : goal.invariant-loop-thread
invariant-loop-thread l = l.uses.items ≡ flat_map thread_uses (take l.thread-index l.threads)
