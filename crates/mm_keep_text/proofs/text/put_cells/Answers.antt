use Rattle.mm_text.proofs.Appending.{appends_item}
use Rattle.mm_keep_text.specs.Answers.{cell_line}
use Rattle.mm_keep_text.proofs.text.put_cells.Goals as goal

pub loop-word-preserved : goal.loop-word-preserved
loop-word-preserved g c = appends_item cell_line c.args.cells.now c.loop-word.word-index c.loop-word-item.result c.loop-word-test.true c.loop-word-item.is c.loop-word.invariant c.put_cell.ensures
