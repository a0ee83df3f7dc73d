use Rattle.std.{proofs.{Common.{List, ℕ, ap, ◌∙◌, arith}, lemmas.List.take_all}, specs.List.flat_map}
use Rattle.mm_word.specs.declared.word.Cell.{Cell}
use Rattle.mm_model.specs.Memory.{Memory, zero_page}
use Rattle.mm_text.proofs.Appending.{appends_more, appends_same}
use Rattle.mm_report.specs.Changes.{contents, lines_of}
use Rattle.mm_report.proofs.CellPlaces.{page_changes, changes_here, lines_of_pages}
use Rattle.mm_mem.proofs.PagePlaces.{place_number, place_mapped}
use Rattle.mm_report.proofs.cells.put_cells.Goals as goal

pub put_page_cells-requires-clause-number : goal.put_page_cells-requires-clause-number
put_page_cells-requires-clause-number g c = place_number (g.M.Memory.meaning c.args.mem.now) c.loop-i.i c.page_at-number.result c.requires.paged c.page_at-number.ensures

pub put_page_cells-requires-clause-mapped : goal.put_page_cells-requires-clause-mapped
put_page_cells-requires-clause-mapped g c = place_mapped (g.M.Memory.meaning c.args.mem.now) c.loop-i.i c.page_at-number.result c.requires.paged c.page_at-number.ensures

pub loop-i-preserved : goal.loop-i-preserved
loop-i-preserved g c =
    let now : Memory = g.M.Memory.meaning c.args.mem.now in
    let line : ℕ × List Cell → List ℕ = λ page. lines_of (page_changes (contents c.args.pages.now) page) in
    appends_more line now.pages c.loop-i.i (0, zero_page) (omega arith) c.loop-i.invariant
    (appends_same c.put_page_cells.ensures (changes_here now (contents c.args.pages.now) c.loop-i.i c.page_at-number.result (0, zero_page) c.requires.paged c.page_at-number.ensures))

pub returns : goal.returns
returns g c =
    let now : Memory = g.M.Memory.meaning c.args.mem.now in
    let line : ℕ × List Cell → List ℕ = λ page. lines_of (page_changes (contents c.args.pages.now) page) in
    appends_same c.loop-i.invariant (ap (flat_map line) (take_all c.loop-i.i now.pages (omega arith)) ∙ lines_of_pages (contents c.args.pages.now) now.pages)
