use Rattle.std.proofs.Common.{◌≡◌, ◌++◌, map, zip, take}
use Rattle.mm_model.specs.State.{output_of}
use Rattle.mm_explore.specs.Finds.{as_output}
use Rattle.mm_explore.proofs.outcomes.put_outputs.Given as goal

abbrev pub invariant-loop-group : goal.invariant-loop-group
invariant-loop-group l = l.out.items ≡ l.fn.out.items ++ take l.group-index (map as_output (zip l.groups (map (output_of l.core) l.groups)))
