use Rattle.std.{proofs.Common.{◌≡◌, ◌++◌, take}, specs.{List.flat_map, Int.{w64, to_be_bytes}}}
use Rattle.mm_word.specs.Word.{word_bits}
use Rattle.mm_image.proofs.writing.put_words.Given as goal

abbrev pub invariant-loop-word : goal.invariant-loop-word
invariant-loop-word l = l.out.items ≡ l.initial.out.items ++ flat_map (λ w. to_be_bytes w64 (word_bits w)) (take l.word-index l.words)
