use Rattle.std.{proofs.Common.{◌≡◌, ◌++◌, map, take}, specs.List.flat_map}
use Rattle.mm_model.specs.State.{output_of}
use Rattle.mm_explore.specs.Noting.{bytes_form}
use Rattle.mm_explore.proofs.ends.put_outputs.Given as goal

abbrev pub invariant-loop-group : goal.invariant-loop-group
invariant-loop-group l = l.key.items ≡ l.fn.key.items ++ flat_map bytes_form (take l.group-index (map (output_of l.core) l.groups))
