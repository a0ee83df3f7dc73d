use Rattle.std.proofs.Common.{◌≤◌, ◌-◌}
use Rattle.mm_config.specs.Noting.{IsSameTree}
use Rattle.mm_config.proofs.pages.deepen.Given as goal

abbrev pub invariant-loop-names : goal.invariant-loop-names
invariant-loop-names l = record { same : IsSameTree l.fn.pairs l.fn.names l.pairs l.names; few : l.names.height ≤ 32 }

abbrev pub decreases-loop-names : goal.decreases-loop-names
decreases-loop-names l = 32 - l.names.height
