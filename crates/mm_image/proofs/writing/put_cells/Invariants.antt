use Rattle.std.{proofs.Common.{◌≡◌, ◌++◌, take, map}, specs.{List.flat_map, Int.{w64, to_be_bytes}}}
use Rattle.mm_word.specs.{declared.word.Cell.Cell, Word.word_bits}
use Rattle.mm_image.proofs.writing.put_cells.Given as goal

abbrev pub invariant-loop-cell : goal.invariant-loop-cell
invariant-loop-cell l = l.out.items ≡ l.initial.out.items ++ flat_map (λ w. to_be_bytes w64 (word_bits w)) (map (λ (c : Cell). c.word) (take l.cell-index l.cells))
