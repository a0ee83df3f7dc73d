use Rattle.std.{proofs.Common.{◌≡◌, ◌++◌, take}, specs.List.flat_map}
use Rattle.mm_object.specs.Format.{value_row, is_tagged}
use Rattle.mm_object.proofs.writing.put_values.Given as goal

abbrev pub invariant-loop-value : goal.invariant-loop-value
invariant-loop-value l =
    l.out.items ≡ l.initial.out.items ++ flat_map (λ v. (value_row (is_tagged v)).spell v) (take l.value-index l.values)
