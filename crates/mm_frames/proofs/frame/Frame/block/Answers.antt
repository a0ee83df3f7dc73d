use Rattle.std.proofs.{Common.{◌≡◌, List, [], get_or, length, ap, ◌∙◌, arith}, lemmas.List.get_or_default}
use Rattle.mm_word.specs.declared.word.Cell.{Cell}
use Rattle.mm_mem.specs.Blocks.{block_in}
use Rattle.mm_frames.proofs.Cells.{block_read, eight_at}
use Rattle.mm_frames.proofs.frame.Frame.block.Goals as goal

its_block : (c : goal.After-result-1) → c.index.result.now ≡ get_or c.self.inside.blocks.items c.args.block_index []
its_block c = c.index.ensures ∙ get_or_default c.self.inside.blocks.items c.args.block_index c.index.result.now [] (omega (arith, c.requires, c.self.invariant.many))

pub returns-clause-block : goal.returns-clause-block
returns-clause-block c =
    let blocks = c.self.inside.blocks.items in
    its_block c
    ∙ block_read blocks c.args.block_index c.self.invariant.whole (omega (arith, c.requires, c.self.invariant.many))
    ∙ ap (λ (cells : List Cell). block_in cells c.args.block_index) c.self.view_is

pub returns-clause-whole : goal.returns-clause-whole
returns-clause-whole c =
    let blocks = c.self.inside.blocks.items in
    ap length (its_block c) ∙ eight_at blocks c.args.block_index c.self.invariant.whole (omega (arith, c.requires, c.self.invariant.many))
