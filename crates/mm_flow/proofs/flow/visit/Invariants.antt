use Rattle.std.proofs.Common.{◌≡◌}
use Rattle.mm_flow.specs.Work.{Propagated, IsAmong, StaysListed}
use Rattle.mm_flow.proofs.flow.visit.Given as goal

abbrev pub invariant-loop-j : goal.invariant-loop-j
invariant-loop-j l = Propagated (IsAmong l.targets l.lo l.j) l.fn.marks l.fn.work.pending.items l.mask l.marks l.work.pending.items
    × StaysListed l.fn.work.propagated.items l.fn.marks l.fn.work.pending.items l.marks l.work.pending.items × (l.work.propagated ≡ l.fn.work.propagated)
