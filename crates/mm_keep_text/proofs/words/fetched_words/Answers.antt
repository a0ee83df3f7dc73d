use Rattle.std.proofs.Common.{◌+◌, take}
use Rattle.mm_keep_text.proofs.{Sets.take_got, HeldWords.fetches_more}
use Rattle.mm_keep_text.proofs.words.fetched_words.Goals as goal

pub loop-k-preserved : goal.loop-k-preserved
loop-k-preserved c =
    let ts = c.args.tables.now.threads in
    let t = c.thread.result in
    record {
      each = fetches_more (take c.loop-k.k ts) (take (c.loop-k.k + 1) ts) t c.loop-k.words.keys c.put_fetched.new.words.keys
          (take_got ts c.loop-k.k t c.thread.ensures) c.loop-k.invariant.each c.in_ok-put_fetched.ensures.each;
      words = c.in_ok-put_fetched.ensures.words c.loop-k.invariant.words;
    }
