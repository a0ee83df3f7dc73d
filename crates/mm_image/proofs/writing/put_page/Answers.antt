use Rattle.std.{proofs.Common.{◌++◌, ℕ, List, map, sym, ap, ◌∙◌}, specs.Int.{w64, to_be_bytes}}
use Rattle.mm_word.specs.{declared.word.Cell.Cell, Word.is_pointer}
use Rattle.mm_model.specs.Spelling.{bitmap}
use Rattle.mm_format.{specs.{Formats.each, Images.word}, proofs.ImagesWhole.page_spelled}
use Rattle.mm_image.proofs.Written.{both_written}
use Rattle.mm_image.proofs.writing.put_page.Goals as goal

pub returns : goal.returns
returns c =
    let old = c.args.out.now.items in
    let page = c.args.page.now in
    let n1 = c.extend_from_slice.new.self.items in
    let n2 = c.put_tags.new.out.items in
    let n3 = c.put_full_bits.new.out.items in
    let n4 = c.put_cells.new.out.items in
    let number = to_be_bytes w64 page.0 in
    let tags = bitmap 64 (map (λ (c : Cell). is_pointer c.word) page.1) in
    let full = bitmap 64 (map (λ (c : Cell). c.full) page.1) in
    let words : List Cell → List ℕ = λ cells.
    (each word (map (λ (c : Cell). is_pointer c.word) cells)).spell (map (λ (c : Cell). c.word) cells) in
    let e1 = c.in_ok-extend_from_slice.ensures.items ∙ ap (λ (t : List ℕ). old ++ t) (c.to_be_bytes.ensures ∙ ap (to_be_bytes w64) c.number.ensures.number) in
    let e2 = both_written old n1 n2 number tags e1 (c.in_ok-put_tags.ensures ∙ ap (λ (cells : List Cell). n1 ++ bitmap 64 (map (λ (c : Cell). is_pointer c.word) cells)) c.cells.ensures.cells) in
    let e3 = both_written old n2 n3 (number ++ tags) full e2 (c.in_ok-put_full_bits.ensures ∙ ap (λ (cells : List Cell). n2 ++ bitmap 64 (map (λ (c : Cell). c.full) cells)) c.cells-2.ensures.cells) in
    both_written old n3 n4 (number ++ tags ++ full) (words page.1) e3 (c.in_ok-put_cells.ensures ∙ ap (λ (cells : List Cell). n3 ++ words cells) c.cells-3.ensures.cells)
    ∙ ap (λ (t : List ℕ). old ++ t) (sym (page_spelled page))
