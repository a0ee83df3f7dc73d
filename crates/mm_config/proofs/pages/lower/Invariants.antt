use Rattle.std.proofs.Common.{◌≤◌}
use Rattle.mm_config.specs.Noting.{IsSameTree}
use Rattle.mm_config.proofs.pages.lower.Given as goal

abbrev pub invariant-loop-names : goal.invariant-loop-names
invariant-loop-names l = record { same : IsSameTree l.pairs l.fn.names l.pairs l.names; few : l.names.height ≤ l.fn.names.height }

abbrev pub decreases-loop-names : goal.decreases-loop-names
decreases-loop-names l = l.names.height
