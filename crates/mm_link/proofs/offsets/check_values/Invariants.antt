use Rattle.std.{proofs.Common.{◌≡◌, drop}, specs.List.flat_map}
use Rattle.mm_object.specs.Objects.{value_targets}
use Rattle.mm_link.specs.Steps.{outside}
use Rattle.mm_link.proofs.offsets.check_values.Given as goal

abbrev pub invariant-loop-value : goal.invariant-loop-value
invariant-loop-value l = outside l.sites l.object (flat_map value_targets (drop l.value-index l.values)) ≡ outside l.sites l.object (flat_map value_targets l.values)
