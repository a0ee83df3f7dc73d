use Rattle.std.proofs.{Common.{◌∙◌, ◌*◌, ◌++◌, ◌∷◌, [], Bool, length, take, sym, ap}, lemmas.List.take_all}
use Rattle.mm_word.specs.declared.word.Cell.{Cell}
use Rattle.mm_audit.{specs.Own.{is_covered, kept_cell, kept_cells}, proofs.OwnPages.{kept_more, kept_length}}
use Rattle.mm_audit.proofs.kept_parts.cells_of.Goals as goal

pub loop-cell_index-preserved : goal.loop-cell_index-preserved
loop-cell_index-preserved c =
    let covered = is_covered c.args.set.now in
    let base = c.number-base.result * 4096 in
    let old = kept_cells covered base (take c.loop-cell_index.cell_index c.cells-cells.result.now) in
    c.in_ok-push.ensures.items ∙ ap (λ l. l ++ c.kept_cell.result ∷ []) c.loop-cell_index.invariant
    ∙ ap (λ (v : Cell). old ++ v ∷ []) (c.kept_cell.ensures ∙ ap (λ (b : Bool). kept_cell b c.index-cells-cell_index.result) c.covers-keep.ensures)
    ∙ sym (kept_more covered base c.cells-cells.result.now c.loop-cell_index.cell_index c.index-cells-cell_index.result c.loop-cell_index-test.true c.index-cells-cell_index.is)

pub returns-clause-whole : goal.returns-clause-whole
returns-clause-whole c =
    ap length (c.loop-cell_index.invariant ∙ ap (kept_cells (is_covered c.args.set.now) (c.number-base.result * 4096))
    (take_all c.loop-cell_index.cell_index c.cells-cells.result.now c.loop-cell_index-test.false))
    ∙ kept_length (is_covered c.args.set.now) (c.number-base.result * 4096) c.cells-cells.result.now ∙ c.cells-cells.ensures.whole

pub returns-clause-cells : goal.returns-clause-cells
returns-clause-cells c =
    let covered = is_covered c.args.set.now in
    c.loop-cell_index.invariant ∙ ap (kept_cells covered (c.number-base.result * 4096)) (take_all c.loop-cell_index.cell_index c.cells-cells.result.now c.loop-cell_index-test.false
    ∙ c.cells-cells.ensures.cells)
    ∙ ap (λ n. kept_cells covered (n * 4096) c.args.page.now.1) c.number-base.ensures.number
