use Rattle.std.proofs.{Common.{◌≡◌, ◌*◌, ◌+◌, List, length, sym, ◌∙◌, ap, arith, take}, lemmas.List.take_all}
use Rattle.mm_word.specs.declared.word.Cell.{Cell}
use Rattle.mm_frames.proofs.Cells.{eight_of_page, front_more, whole_with_block}
use Rattle.mm_frames.proofs.frame.Frame.copy.Goals as goal

pub loop-block_index-preserved : goal.loop-block_index-preserved
loop-block_index-preserved c =
    let l = c.loop-block_index in
    let cells : List Cell = c.cells-cells.result.now in
    record {
      copied = ap (take ((l.block_index + 1) * 8)) c.put.ensures.cells
          ∙ front_more l.self cells c.of.result l.block_index c.loop-block_index-test.true c.put.ensures.whole c.cells-cells.ensures.whole c.of.ensures l.invariant.copied;
      whole = λ _. ap length c.put.ensures.cells ∙ whole_with_block l.self c.of.result l.block_index c.loop-block_index-test.true c.put.ensures.whole
          (ap length c.of.ensures ∙ eight_of_page cells l.block_index c.loop-block_index-test.true c.cells-cells.ensures.whole);
    }

pub returns : goal.returns
returns c =
    let l = c.loop-block_index in
    let whole : length l.self ≡ 512 = l.invariant.whole (omega (arith, c.loop-block_index-test.false)) in
    sym (take_all (l.block_index * 8) l.self (omega (arith, whole, c.loop-block_index-test.false)))
    ∙ l.invariant.copied
    ∙ take_all (l.block_index * 8) c.cells-cells.result.now (omega (arith, c.cells-cells.ensures.whole, c.loop-block_index-test.false))
    ∙ c.cells-cells.ensures.cells
