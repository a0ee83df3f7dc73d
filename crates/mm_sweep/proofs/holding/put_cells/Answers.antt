use Rattle.std.proofs.Common.{◌≡◌, ◌*◌, ◌<◌, List, length, get_or, subst}
use Rattle.mm_word.specs.declared.word.Cell.{Cell}
use Rattle.mm_text.proofs.Appending.{appends_then, appends_same}
use Rattle.mm_sweep.proofs.HolderLines.{cells_more}
use Rattle.mm_sweep.proofs.holding.put_cells.Goals as goal

pub loop-index-preserved : goal.loop-index-preserved
loop-index-preserved g c =
    let cells : List Cell = c.args.page.now.1 in
    let cell : Cell = c.cell-item.result in
    let n = c.loop-index.index in
    let lt : n < length cells = subst (λ (l : List Cell). n < length l) c.cells-cell-items.ensures.cells c.loop-index-test.true in
    let is : cell ≡ get_or cells n cell = subst (λ (l : List Cell). cell ≡ get_or l n cell) c.cells-cell-items.ensures.cells c.cell-item.is in
    appends_same (appends_then c.loop-index.invariant c.put_holder.ensures) (cells_more c.args.range.now (c.number-start.result * 4096) n cells cell lt is)
