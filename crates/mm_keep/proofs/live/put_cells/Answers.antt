use Rattle.mm_word.specs.declared.word.Cell.{Cell}
use Rattle.mm_kernel.specs.Segments.{pointers_in}
use Rattle.mm_keep.proofs.Loops.{appended_more, appended_all}
use Rattle.mm_keep.proofs.live.put_cells.Goals as goal

pub loop-cell-preserved : goal.loop-cell-preserved
loop-cell-preserved c =
    let l = c.loop-cell in
    appended_more (λ (c : Cell). pointers_in c.word) c.args.out.now.items l.out.items c.put_word.new.out.items c.args.cells.now l.cell-index c.cell-item.result
    c.loop-cell-test.true c.cell-item.is l.invariant c.in_ok-put_word.ensures

pub returns : goal.returns
returns c =
    let l = c.loop-cell in
    appended_all (λ (c : Cell). pointers_in c.word) c.args.out.now.items l.out.items c.args.cells.now l.cell-index c.loop-cell-test.false l.invariant
