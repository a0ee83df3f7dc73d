use Rattle.std.proofs.Common.{◌≡◌, ◌∙◌, ◌<◌, ◌*◌, ◌+◌, ℕ, List, get_or, sym, ap, arith}
use Rattle.std.{proofs.lemmas.List.{take_all, FromFn.get_or-range_with_len}, specs.List.{flat_map, range_with_len}}
use Rattle.mm_word.specs.declared.word.Cell.{Cell}
use Rattle.mm_model.specs.Memory.{Memory, zero_cell}
use Rattle.mm_text.proofs.Appending.{appends_item, appends_same}
use Rattle.mm_report.specs.Changes.{change_line, contents, cells_of, line_at}
use Rattle.mm_report.proofs.CellPlaces.{lines_by_place, was_whole}
use Rattle.mm_mem.proofs.PagePlaces.{page_is}
use Rattle.mm_report.proofs.cells.put_page_cells.Goals as goal

pub loop-index-preserved : goal.loop-index-preserved
loop-index-preserved g c =
    let now : Memory = g.M.Memory.meaning c.args.mem.now in
    let n : ℕ = c.loop-index.index in
    let inside : n < 512 = omega arith in
    let same : n ≡ get_or (range_with_len 0 512) n n = omega (arith, get_or-range_with_len 0 512 n n inside) in
    let cells : List Cell = cells_of now c.args.number in
    let was : List Cell = cells_of (contents c.args.pages.now) c.args.number in
    let line : change_line (c.args.number * 4096 + 8 * n) c.cell_there-now.result c.cell_of-was.result ≡ line_at (c.args.number * 4096) cells was n =
    ap (λ (x : Cell). change_line (c.args.number * 4096 + 8 * n) x c.cell_of-was.result) c.cell_there-now.ensures
    ∙ ap (λ (x : Cell). change_line (c.args.number * 4096 + 8 * n) (get_or cells n zero_cell) x) c.cell_of-was.ensures in
    appends_item (line_at (c.args.number * 4096) cells was) (range_with_len 0 512) n n inside same c.loop-index.invariant (appends_same c.put_change.ensures line)

pub returns : goal.returns
returns g c =
    let now : Memory = g.M.Memory.meaning c.args.mem.now in
    let cells : List Cell = cells_of now c.args.number in
    let was : List Cell = cells_of (contents c.args.pages.now) c.args.number in
    appends_same c.loop-index.invariant
    (ap (flat_map (line_at (c.args.number * 4096) cells was)) (take_all c.loop-index.index (range_with_len 0 512) (omega arith))
    ∙ sym (lines_by_place (c.args.number * 4096) 512 cells was (page_is now c.args.number c.requires.paged c.requires.mapped).cells (was_whole c.args.pages.now c.args.number c.requires.whole)))
