use Rattle.std.proofs.Common.{length}
use Rattle.mm_object.{specs.Objects.is_thread, proofs.Bools.all_at}
use Rattle.mm_text.proofs.Appending.{appends_more}
use Rattle.mm_disasm.specs.Canonical.{thread_text}
use Rattle.mm_disasm.proofs.threads.put_threads.Goals as goal

pub put_thread-requires : goal.put_thread-requires
put_thread-requires g c =
    all_at (is_thread c.args.o.now.segments (length c.args.o.now.externals)) c.args.threads.now c.requires c.loop-thread.thread-index _ c.loop-thread-test.true

pub loop-thread-preserved : goal.loop-thread-preserved
loop-thread-preserved g c =
    appends_more (thread_text c.args.o.now) c.args.threads.now c.loop-thread.thread-index _ c.loop-thread-test.true c.loop-thread.invariant c.put_thread.ensures
