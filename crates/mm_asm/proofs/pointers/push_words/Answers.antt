use Rattle.std.proofs.{Common.{◌++◌, ap, ◌∙◌, sym}, lemmas.List.take_all}
use Rattle.mm_asm.proofs.{Built.{numbered, numbered_pushed}, BuiltNumbered.{reloc_at, words_are}}
use Rattle.mm_asm.proofs.pointers.push_words.Goals as goal

pub loop-k-preserved : goal.loop-k-preserved
loop-k-preserved c =
    let l = c.loop-k in
    numbered_pushed (reloc_at c.args.draft.now c.args.segment) c.args.relocs.now.items l.relocs.items
    c.push_word.new.relocs.items c.args.words.now l.k c.index-words-k.result c.loop-k-test.true c.index-words-k.is
    l.invariant
    c.in_ok-push_word.ensures.relocs

pub returns-clause-relocs : goal.returns-clause-relocs
returns-clause-relocs c =
    let l = c.loop-k in
    let d = c.args.draft.now in
    l.invariant ∙ ap (λ rs. c.args.relocs.now.items ++ rs) (ap (numbered (reloc_at d c.args.segment) 0)
    (take_all l.k c.args.words.now c.loop-k-test.false) ∙ sym (words_are d c.args.segment 0 c.args.words.now))
