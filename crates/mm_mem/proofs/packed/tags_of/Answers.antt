use Rattle.mm_word.specs.{declared.word.Cell.Cell, Word.is_pointer}
use Rattle.mm_mem.proofs.PackedCells.{byte_more}
use Rattle.mm_mem.proofs.packed.tags_of.Goals as goal

pub loop-i-preserved : goal.loop-i-preserved
loop-i-preserved c = byte_more (λ (c : Cell). is_pointer c.word) c.args.cells.now c.loop-i.i c.index-cells-i.result c.is_pointer.result c.loop-i.byte c.requires c.loop-i-test.true c.index-cells-i.is
    c.is_pointer.ensures c.loop-i.invariant
