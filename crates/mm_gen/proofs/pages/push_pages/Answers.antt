use Rattle.std.proofs.Common.{length, ap, arith, ◌∙◌}
use Rattle.mm_gen.proofs.{Numbers.length-cells_behind, PageLists.{length-code_cells, two_pages}}
use Rattle.mm_gen.proofs.pages.push_pages.Goals as goal

pub of-requires : goal.of-requires
of-requires c = record {
  number = omega (arith, c.code_page.ensures, c.ranges.slot.fits);
  cells = ap length c.in_ok-code_cells.ensures ∙ length-code_cells;
}

pub of-requires-2 : goal.of-requires-2
of-requires-2 c = record {
  number = omega (arith, c.data_page.ensures, c.ranges.slot.fits);
  cells = ap length c.in_ok-data_cells.ensures.cells ∙ length-cells_behind c.args.number.now 512;
}

pub returns-clause-pages : goal.returns-clause-pages
returns-clause-pages c =
    let two =
    two_pages c.args.pages.now.items c.args.number.now c.args.slot c.in_ok-code_cells.field-0.items c.in_ok-data_cells.field-0.items c.in_ok-code_cells.ensures
    c.in_ok-data_cells.ensures.cells
    in
    cc (two, c.in_ok-push.ensures.items, c.in_ok-push-2.ensures.items, c.of.ensures, c.of-2.ensures, c.code_page.ensures, c.data_page.ensures)
