use Rattle.std.proofs.Common.{◌+◌, ◌*◌, ◌++◌, take, ◌∙◌, sym, ap}
use Rattle.mm_word.specs.declared.word.Cell.{Cell}
use Rattle.mm_graph.{specs.{Key.word_key, Found.{found_at, cell_keys}}, proofs.Lists.{cell_keys-more, grown}}
use Rattle.mm_graph.proofs.found.add_page.Goals as goal

pub loop-k-preserved : goal.loop-k-preserved
loop-k-preserved c =
    let e = c.in_ok-add_cell.ensures in
    let base = c.args.page.now.0 * 4096 in
    let more = cell_keys-more base c.loop-k.k c.cells-cells.result.now c.index-cells-k.result c.loop-k-test.true in (
      grown _ _ _ _ _ _ c.loop-k.invariant.0 (rw c.number-base.ensures.number at e.items)
          (more ∙ ap (λ (v : Cell). cell_keys base (take c.loop-k.k c.cells-cells.result.now) ++ found_at
          (base + 8 * c.loop-k.k) (word_key v.word)) (sym c.index-cells-k.is)),
      e.keys,
    )
