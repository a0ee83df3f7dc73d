use Rattle.std.{proofs.Common.{◌≡◌, take}, specs.List.AllByRecursion}
use Rattle.mm_explore.proofs.endless.stays.Given as goal

abbrev pub invariant-loop-child : goal.invariant-loop-child
invariant-loop-child l = AllByRecursion (λ child. child ≡ l.node) (take l.child-index l.children)
