use Rattle.std.{proofs.Common.{◌≡◌, true, take}, specs.List.list_all}
use Rattle.mm_object.specs.Objects.{is_value}
use Rattle.mm_object.proofs.threads.are_values.Given as goal

abbrev pub invariant-loop-value : goal.invariant-loop-value
invariant-loop-value l = list_all (is_value l.segments l.externals) (take l.value-index l.values) ≡ true
