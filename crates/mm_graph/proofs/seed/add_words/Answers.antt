use Rattle.std.proofs.Common.{◌++◌, ◌∙◌, sym, ap, take}
use Rattle.mm_word.specs.declared.word.Word.{Word}
use Rattle.mm_graph.{specs.{Key.word_key, Found.{seed_at, word_seeds}}, proofs.Lists.{word_seeds-more, grown}}
use Rattle.mm_graph.proofs.seed.add_words.Goals as goal

pub loop-k-preserved : goal.loop-k-preserved
loop-k-preserved c =
    let e = c.in_ok-add_word.ensures in
    let more = word_seeds-more c.args.group c.loop-k.k c.args.words.now c.index-words-k.result c.loop-k-test.true in (
      grown _ _ _ _ _ _ c.loop-k.invariant.0 e.items
          (more ∙ ap (λ (v : Word). word_seeds c.args.group (take c.loop-k.k c.args.words.now) ++ seed_at c.args.group
          (word_key v)) (sym c.index-words-k.is)),
      e.keys,
    )
