use Rattle.mm_hold.specs.Deeds.{used_in}
use Rattle.mm_hold.specs.declared.deed.Deed.TheVariants.{Loaded}
use Rattle.mm_hold.proofs.Listing.{put_at}
use Rattle.mm_hold.proofs.inside.put_loaded_words.Goals as goal

pub loop-word-preserved : goal.loop-word-preserved
loop-word-preserved c =
    let l = c.loop-word in
    put_at (used_in Loaded c.args.origin.now c.args.part) c.args.deeds.now.items c.args.carrying.now l.word-index l.deeds.items c.put_loaded_word.new.deeds.items 0
    c.loop-word-test.true l.invariant c.in_ok-put_loaded_word.ensures
