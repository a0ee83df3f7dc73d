use Rattle.std.{proofs.Common.{◌≡◌, true, take}, specs.List.list_all}
use Rattle.mm_object.specs.Objects.{is_thread}
use Rattle.mm_object.proofs.threads.are_threads.Given as goal

abbrev pub invariant-loop-thread : goal.invariant-loop-thread
invariant-loop-thread l = list_all (is_thread l.segments l.externals) (take l.thread-index l.threads) ≡ true
