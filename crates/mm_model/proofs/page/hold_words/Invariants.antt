use Rattle.std.{proofs.Common.take, specs.List.AllByRecursion}
use Rattle.mm_word.specs.{declared.word.Cell.Cell, Word.IsWord}
use Rattle.mm_model.proofs.page.hold_words.Given as goal

abbrev pub invariant-loop-cell : goal.invariant-loop-cell
invariant-loop-cell l = AllByRecursion (λ (c : Cell). IsWord c.word) (take l.cell-index l.cells)
