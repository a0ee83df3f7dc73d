use Rattle.std.proofs.Common.{◌+◌, take}
use Rattle.mm_keep_text.specs.Parts.{ReadsPart, WritesPart}
use Rattle.mm_keep_text.proofs.{Sets.take_got, Uses.thread_more}
use Rattle.mm_keep_text.proofs.finding.all_used.Goals as goal

pub loop-k-preserved : goal.loop-k-preserved
loop-k-preserved c =
    let i = c.args.kernel.now.image in
    let kept = c.args.kernel.now.kept in
    let ts = c.args.tables.now.threads in
    let t = c.thread.result in
    let more = take_got ts c.loop-k.k t c.thread.ensures in
    record {
      reads = thread_more (ReadsPart i kept) (take c.loop-k.k ts) (take (c.loop-k.k + 1) ts) t c.loop-k.reads.keys c.put_uses.new.reads.keys more
          c.loop-k.invariant.reads c.in_ok-put_uses.ensures.reads;
      writes = thread_more (WritesPart i kept) (take c.loop-k.k ts) (take (c.loop-k.k + 1) ts) t c.loop-k.writes.keys c.put_uses.new.writes.keys more
          c.loop-k.invariant.writes c.in_ok-put_uses.ensures.writes;
    }
