use Rattle.std.proofs.Common.{◌++◌, List, ℕ, map, sym, ap, ◌∙◌, arith}
use Rattle.std.proofs.lemmas.{Grind.common_steps, List.{length-map, take_all}}
use Rattle.std.specs.{List.flat_map, Int.{w64, to_be_bytes}}
use Rattle.mm_word.specs.{declared.word.Word.Word, Word.{word_bits, is_pointer}}
use Rattle.mm_format.proofs.ImagesWhole.{words_spelled}
use Rattle.mm_image.proofs.writing.put_words.Goals as goal

pub loop-word-preserved : goal.loop-word-preserved
loop-word-preserved c = grind (arith, common_steps)

pub returns : goal.returns
returns c =
    let words = c.args.words.now in
    let old = c.args.out.now.items in
    c.loop-word.invariant
    ∙ ap (λ (ws : List Word). old ++ flat_map (λ w. to_be_bytes w64 (word_bits w)) ws)
    (take_all c.loop-word.word-index words c.loop-word-test.false)
    ∙ ap (λ (t : List ℕ). old ++ t) (sym (words_spelled (map is_pointer words) words (sym (length-map words is_pointer))))
