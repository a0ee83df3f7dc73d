-- Cells of their words and full bits.
use Rattle.std.proofs.Common.{◌≡◌, Bool, List, map, sym, ap, ◌∙◌}
use Rattle.mm_word.specs.declared.word.Cell.{Cell}
use Rattle.mm_format.{specs.Images.cells_of, proofs.ImagesFit.cells_again}

pub cells_whole : (cells : List Cell) (full : List Bool) → map (λ (c : Cell). c.full) cells ≡ full
    → cells_of (map (λ (c : Cell). c.word) cells) full ≡ cells
cells_whole cells full is = sym (ap (cells_of (map (λ (c : Cell). c.word) cells)) is) ∙ sym (cells_again cells)
