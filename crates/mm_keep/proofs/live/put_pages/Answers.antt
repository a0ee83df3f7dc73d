use Rattle.std.proofs.Common.{◌++◌, ap, ◌∙◌}
use Rattle.std.specs.List.{flat_map}
use Rattle.mm_word.specs.declared.word.Cell.{Cell}
use Rattle.mm_kernel.specs.Segments.{page_pointers, pointers_in}
use Rattle.mm_keep.proofs.Loops.{appended_more, appended_all}
use Rattle.mm_keep.proofs.live.put_pages.Goals as goal

pub loop-page-preserved : goal.loop-page-preserved
loop-page-preserved c =
    let l = c.loop-page in
    appended_more page_pointers c.args.out.now.items l.out.items c.put_cells.new.out.items c.args.pages.now l.page-index c.page-item.result
    c.loop-page-test.true c.page-item.is l.invariant
    (c.in_ok-put_cells.ensures ∙ ap (λ cells. l.out.items ++ flat_map (λ (c : Cell). pointers_in c.word) cells) c.cells.ensures.cells)

pub returns : goal.returns
returns c =
    let l = c.loop-page in
    appended_all page_pointers c.args.out.now.items l.out.items c.args.pages.now l.page-index c.loop-page-test.false l.invariant
