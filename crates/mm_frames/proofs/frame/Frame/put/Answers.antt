use Rattle.std.proofs.Common.{List, length, sym, ap, ◌∙◌, arith, length-set}
use Rattle.mm_word.specs.declared.word.Cell.{Cell}
use Rattle.mm_mem.specs.Blocks.{with_block}
use Rattle.mm_frames.proofs.Cells.{block_put, eight_set, length-cells_of}
use Rattle.mm_frames.proofs.frame.Frame.put.Goals as goal

pub invariant_of-self : goal.invariant_of-self
invariant_of-self c =
    let blocks = c.self.inside.blocks.items in
    record {
      many = length-set blocks c.args.block_index c.args.block.now ∙ c.self.invariant.many;
      whole = eight_set blocks c.args.block_index c.args.block.now c.self.invariant.whole c.requires.whole;
    }

pub returns-clause-cells : goal.returns-clause-cells
returns-clause-cells c =
    let blocks = c.self.inside.blocks.items in
    block_put blocks c.args.block_index c.args.block.now c.self.invariant.whole (omega (arith, c.requires.block_index, c.self.invariant.many))
    ∙ ap (λ (cells : List Cell). with_block cells c.args.block_index c.args.block.now) c.self.view_is

pub returns-clause-whole : goal.returns-clause-whole
returns-clause-whole c =
    let blocks = c.self.inside.blocks.items in
    ap length (sym c.self.view_is) ∙ length-cells_of blocks c.self.invariant.whole ∙ omega (arith, c.self.invariant.many)
