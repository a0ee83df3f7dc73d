use Rattle.std.{proofs.Common.{◌≡◌, ◌++◌, take}, specs.List.flat_map}
use Rattle.mm_object.specs.Format.{thread_record}
use Rattle.mm_object.proofs.writing.put_threads.Given as goal

abbrev pub invariant-loop-thread : goal.invariant-loop-thread
invariant-loop-thread l = l.out.items ≡ l.initial.out.items ++ flat_map thread_record (take l.thread-index l.threads)
