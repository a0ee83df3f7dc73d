use Rattle.std.proofs.Common.{ℕ, ◌<◌}
use Rattle.mm_audit.specs.{Meeting.row_at, Writers.{NoneWith, IsOutside}}
use Rattle.mm_audit.proofs.writers.writer.Given as goal

abbrev pub invariant-loop-h : goal.invariant-loop-h
invariant-loop-h l = (k : ℕ) → k < l.h → IsOutside l.inside k → NoneWith (row_at l.table k) l.inside 64
