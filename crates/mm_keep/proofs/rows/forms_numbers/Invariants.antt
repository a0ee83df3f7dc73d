use Rattle.std.proofs.Common.{◌≡◌, length, map, take}
use Rattle.mm_keep.specs.Rows.{form_of, numbers_of_form}
use Rattle.mm_keep.proofs.rows.forms_numbers.Given as goal

abbrev pub invariant-loop-r : goal.invariant-loop-r
invariant-loop-r l = record {
  is : take l.r l.numbers ≡ map numbers_of_form (take l.r l.forms);
  again : map form_of (take l.r l.numbers) ≡ take l.r l.forms;
  long : length l.numbers ≡ 16;
}
