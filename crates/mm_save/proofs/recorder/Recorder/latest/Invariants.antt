use Rattle.std.{proofs.Common.◌≤◌, specs.Prelude.{IfSome, IsSomeAnd, slice_get}}
use Rattle.mm_debug.specs.Standing.{total_at}
use Rattle.mm_save.proofs.recorder.Recorder.latest.Given as goal

-- the state that was found is not too late
abbrev pub invariant-loop-at : goal.invariant-loop-at
invariant-loop-at g l = IfSome l.latest (λ at. IsSomeAnd (slice_get l.fn.self.ring.items at) (λ p. total_at p ≤ l.fn.total))
