use Rattle.std.{proofs.Common.{◌++◌, List, take}, specs.List.flat_map}
use Rattle.mm_object.specs.{declared.target.Target.Target, Objects.value_targets, Fits.HoldsUses}
use Rattle.mm_object.proofs.uses.mark_values.Given as goal

abbrev pub invariant-loop-value : goal.invariant-loop-value
invariant-loop-value l = (before : List Target) → HoldsUses l.initial.used l.segments before → HoldsUses l.used l.segments (before ++ flat_map value_targets (take l.value-index l.values))
