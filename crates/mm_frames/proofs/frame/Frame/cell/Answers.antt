use Rattle.std.proofs.Common.{◌<◌, ◌/◌, ◌%◌, List, [], length, slice_get, sym, ap, ◌∙◌, arith}
use Rattle.std.proofs.lemmas.List.{get_or_default}
use Rattle.mm_word.specs.declared.word.Cell.{Cell}
use Rattle.mm_frames.proofs.Cells.{cell_read}
use Rattle.mm_frames.proofs.frame.Frame.cell.Goals as goal

pub returns : goal.returns
returns c =
    let blocks = c.self.inside.blocks.items in
    let cell_index = c.args.cell_index in
    let within : cell_index / 8 < length blocks = omega (arith, c.requires, c.self.invariant.many) in
    let block = c.index.ensures ∙ get_or_default blocks (cell_index / 8) c.index.result.now [] within in
    sym (ap (λ (cells : List Cell). slice_get cells cell_index) c.self.view_is)
    ∙ cell_read blocks cell_index c.self.invariant.whole (omega (arith, c.requires, c.self.invariant.many))
    ∙ ap (λ (cells : List Cell). slice_get cells (cell_index % 8)) (sym block)
    ∙ c.cell.ensures.cell
