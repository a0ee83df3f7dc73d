use Rattle.std.{proofs.Common.take, specs.List.AllByRecursion}
use Rattle.mm_word.specs.Word.{IsWord}
use Rattle.mm_config.proofs.slot_form.hold_words.Given as goal

abbrev pub invariant-loop-word : goal.invariant-loop-word
invariant-loop-word l = AllByRecursion IsWord (take l.word-index l.words)
