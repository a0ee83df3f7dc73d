use Rattle.std.proofs.Common.{◌++◌, List, ℕ, Bool, map, sym, ap, ◌∙◌, arith}
use Rattle.std.proofs.lemmas.{Grind.common_steps, List.{length-map, take_all}}
use Rattle.std.specs.{List.flat_map, Int.{w64, to_be_bytes}}
use Rattle.mm_word.specs.{declared.word.{Word.Word, Cell.Cell}, Word.{word_bits, is_pointer}}
use Rattle.mm_format.proofs.ImagesWhole.{words_spelled}
use Rattle.mm_image.proofs.writing.put_cells.Goals as goal

pub loop-cell-preserved : goal.loop-cell-preserved
loop-cell-preserved c = grind (arith, common_steps)

pub returns : goal.returns
returns c =
    let cells = c.args.cells.now in
    let old = c.args.out.now.items in
    let word : Cell → Word = λ c. c.word in
    let tag : Cell → Bool = λ c. is_pointer c.word in
    c.loop-cell.invariant
    ∙ ap (λ (cs : List Cell). old ++ flat_map (λ w. to_be_bytes w64 (word_bits w)) (map word cs))
    (take_all c.loop-cell.cell-index cells c.loop-cell-test.false)
    ∙ ap (λ (t : List ℕ). old ++ t)
    (sym (words_spelled (map tag cells) (map word cells) (length-map cells word ∙ sym (length-map cells tag))))
