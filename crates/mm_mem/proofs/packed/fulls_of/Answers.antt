use Rattle.std.proofs.Common.{refl}
use Rattle.mm_word.specs.declared.word.Cell.{Cell}
use Rattle.mm_mem.proofs.PackedCells.{byte_more}
use Rattle.mm_mem.proofs.packed.fulls_of.Goals as goal

pub loop-i-preserved : goal.loop-i-preserved
loop-i-preserved c = byte_more (λ (c : Cell). c.full) c.args.cells.now c.loop-i.i c.index-cells-i.result c.index-cells-i.result.full c.loop-i.byte c.requires c.loop-i-test.true c.index-cells-i.is refl
    c.loop-i.invariant
