use Rattle.std.proofs.Common.{◌≡◌, ◌*◌, ◌<◌, take, length}
use Rattle.mm_frames.proofs.frame.Frame.copy.Given as goal

abbrev pub invariant-loop-block_index : goal.invariant-loop-block_index
invariant-loop-block_index l = record {
  copied : take (l.block_index * 8) l.self ≡ take (l.block_index * 8) l.cells;
  whole : 0 < l.block_index → length l.self ≡ 512;
}
