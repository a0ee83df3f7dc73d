use Rattle.std.proofs.Common.{◌+◌}
use Rattle.mm_config.proofs.ChangedOutputs.{ChangesSoFar}
use Rattle.mm_config.proofs.outputs.Outputs.changed.Given as goal

abbrev pub invariant-loop-left : goal.invariant-loop-left
invariant-loop-left l = ChangesSoFar l.self l.was l.wanted l.len l.kept l.left l.aim l.bytes.items

abbrev pub decreases-loop-left : goal.decreases-loop-left
decreases-loop-left l = l.left + l.aim
