use Rattle.std.proofs.Common.{◌≡◌, length, map, take}
use Rattle.mm_kernel.specs.Forms.{exactly}
use Rattle.mm_keep.proofs.kernel.forms_of.Given as goal

abbrev pub invariant-loop-r : goal.invariant-loop-r
invariant-loop-r l = record {
  filled : take l.r l.forms ≡ map exactly (take l.r l.words);
  long : length l.forms ≡ 16;
}
