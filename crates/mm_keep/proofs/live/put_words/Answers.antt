use Rattle.mm_kernel.specs.Segments.{pointers_in}
use Rattle.mm_keep.proofs.Loops.{appended_more, appended_all}
use Rattle.mm_keep.proofs.live.put_words.Goals as goal

pub loop-word-preserved : goal.loop-word-preserved
loop-word-preserved c =
    let l = c.loop-word in
    appended_more pointers_in c.args.out.now.items l.out.items c.put_word.new.out.items c.args.words.now l.word-index c.word-item.result
    c.loop-word-test.true c.word-item.is l.invariant c.in_ok-put_word.ensures

pub returns : goal.returns
returns c =
    let l = c.loop-word in
    appended_all pointers_in c.args.out.now.items l.out.items c.args.words.now l.word-index c.loop-word-test.false l.invariant
