use Rattle.std.proofs.Common.{◌≡◌, ℕ, ◌<◌, length, get_or}
use Rattle.mm_model.specs.Memory.{zero_cell}
use Rattle.mm_mem.proofs.block.Block.cells.Given as goal

abbrev pub invariant-loop-index : goal.invariant-loop-index
invariant-loop-index l = record {
  copied : (k : ℕ) → k < l.index → get_or l.cells k zero_cell ≡ get_or l.self k zero_cell;
  long : length l.cells ≡ 8;
  whole : 0 < l.index → length l.self ≡ 8;
}
