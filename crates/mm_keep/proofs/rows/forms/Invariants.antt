use Rattle.std.proofs.Common.{◌≡◌, length, map, take}
use Rattle.mm_keep.specs.Rows.{form_of}
use Rattle.mm_keep.proofs.rows.forms.Given as goal

abbrev pub invariant-loop-r : goal.invariant-loop-r
invariant-loop-r l = record {
  filled : take l.r l.forms ≡ map form_of (take l.r l.numbers);
  long : length l.forms ≡ 16;
}
