use Rattle.mm_disasm.{specs.Canonical.word_line, proofs.Numbering.{appends_numbered, appends_all, words_numbered}}
use Rattle.mm_disasm.proofs.words.put_words.Goals as goal

pub loop-k-preserved : goal.loop-k-preserved
loop-k-preserved g c =
    appends_numbered (word_line c.args.o.now c.args.segment) c.args.items.now c.loop-k.k _ c.loop-k-test.true c.loop-k.invariant c.put_word.ensures

pub returns : goal.returns
returns g c =
    appends_all (word_line c.args.o.now c.args.segment) c.args.items.now c.loop-k.k c.loop-k-test.false
    (words_numbered c.args.o.now c.args.segment 0 c.args.items.now) c.loop-k.invariant
