use Rattle.mm_mem.proofs.Blocks.{own, other, is_mapped-put_block, put_block_paged}
use Rattle.mm_frames.proofs.laws.blocks_are_kept.Goals as goal

pub returns : goal.returns
returns c = record {
  own = own;
  other = other;
  pages = is_mapped-put_block;
  paged = put_block_paged;
}
