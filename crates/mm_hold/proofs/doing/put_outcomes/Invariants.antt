use Rattle.std.{proofs.Common.{◌≡◌, ◌++◌, take}, specs.List.flat_map}
use Rattle.mm_hold.specs.Deeds.{done_by}
use Rattle.mm_hold.proofs.doing.put_outcomes.Given as goal

abbrev pub invariant-loop-outcome : goal.invariant-loop-outcome
invariant-loop-outcome l = l.deeds.items ≡ l.initial.deeds.items ++ flat_map (done_by l.kernel.kept l.findings l.origin) (take l.outcome-index l.all)
