use Rattle.std.proofs.Common.{◌+◌, ◌*◌, List, ap, ◌∙◌}
use Rattle.mm_word.specs.declared.word.Cell.{Cell}
use Rattle.mm_mem.specs.Blocks.{put_block}
use Rattle.mm_frames.specs.Framed.{memory_of, written}
use Rattle.mm_frames.proofs.frames.Frames.write_block.Goals as goal

pub returns-clause-after : goal.returns-clause-after
returns-clause-after c = c.write_packed.ensures.after ∙ ap (λ (cells : List Cell). written c.args.self.now c.args.frame c.args.block cells) c.of.ensures

pub returns-clause-memory : goal.returns-clause-memory
returns-clause-memory c = λ page found.
    c.write_packed.ensures.memory page found ∙ ap (λ (cells : List Cell). put_block (memory_of c.args.self.now) (page * 64 + c.args.block) cells) c.of.ensures
