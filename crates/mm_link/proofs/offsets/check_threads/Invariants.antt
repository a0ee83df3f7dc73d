use Rattle.std.{proofs.Common.{◌≡◌, drop}, specs.List.flat_map}
use Rattle.mm_link.specs.Steps.{outside, thread_targets}
use Rattle.mm_link.proofs.offsets.check_threads.Given as goal

abbrev pub invariant-loop-thread : goal.invariant-loop-thread
invariant-loop-thread l = outside l.sites l.object (flat_map thread_targets (drop l.thread-index l.thread-items)) ≡ outside l.sites l.object (flat_map thread_targets l.thread-items)
