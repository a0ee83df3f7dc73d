use Rattle.std.{proofs.Common.take, specs.List.AllByRecursion}
use Rattle.mm_object.specs.Objects.{IsNumber}
use Rattle.mm_object.proofs.threads.hold_numbers.Given as goal

abbrev pub invariant-loop-value : goal.invariant-loop-value
invariant-loop-value l = AllByRecursion IsNumber (take l.value-index l.values)
