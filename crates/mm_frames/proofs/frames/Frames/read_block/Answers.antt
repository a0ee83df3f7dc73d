use Rattle.std.proofs.Common.{List, Some, sym, ap, ◌∙◌}
use Rattle.mm_word.specs.declared.word.Cell.{Cell}
use Rattle.mm_frames.proofs.Framed.{block_in_frame}
use Rattle.mm_frames.proofs.frames.Frames.read_block.Goals as goal

pub returns-clause-cells : goal.returns-clause-cells
returns-clause-cells c = c.cells.ensures ∙ c.read_packed.ensures.cells

pub returns-clause-memory : goal.returns-clause-memory
returns-clause-memory c = λ page found.
    block_in_frame c.args.self.now page c.args.frame c.args.block found c.requires.in_page ∙ ap (λ (cells : List Cell). Some cells) (sym (returns-clause-cells c))
