use Rattle.std.proofs.Common.{map, take}
use Rattle.std.specs.List.{AllZip}
use Rattle.mm_thread.specs.Revisions.{extension}
use Rattle.mm_config.specs.Reads.{IsOutputRead}
use Rattle.mm_config.proofs.changes.take_outputs.Given as goal

abbrev pub invariant-loop-group : goal.invariant-loop-group
invariant-loop-group l = AllZip (IsOutputRead l.store l.core) (take l.group-index l.changes) (map extension l.outputs.items)
