use Rattle.std.{proofs.Common.{◌≡◌, ◌++◌, take}, specs.List.flat_map}
use Rattle.mm_asm.specs.Names.{word_uses}
use Rattle.mm_asm.proofs.text_order.push_words.Given as goal

abbrev pub invariant-loop-word : goal.invariant-loop-word
invariant-loop-word l = l.uses.items ≡ l.initial.uses.items ++ flat_map word_uses (take l.word-index l.words)
