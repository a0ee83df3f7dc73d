use Rattle.mm_hold.specs.Finding.{word_seed}
use Rattle.mm_hold.proofs.Listing.{put_next}
use Rattle.mm_hold.proofs.found.add_words.Goals as goal

pub loop-k-preserved : goal.loop-k-preserved
loop-k-preserved c =
    let l = c.loop-k in
    let e = c.in_ok-add_word.ensures in (
      put_next (word_seed c.args.kept.now c.args.group) c.args.seeds.now.items c.args.words.now l.k l.seeds.items c.add_word.new.seeds.items
          c.index-words-k.result c.loop-k-test.true c.index-words-k.is l.invariant.0 e.items,
      e.keys,
    )
