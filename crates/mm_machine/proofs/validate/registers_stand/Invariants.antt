use Rattle.std.proofs.Common.{ℕ, ◌<◌}
use Rattle.mm_machine.specs.Snapshot.{RegisterStands}
use Rattle.mm_machine.proofs.validate.registers_stand.Given as goal

abbrev pub invariant-loop-r : goal.invariant-loop-r
invariant-loop-r l = (k : ℕ) → k < l.r → RegisterStands l.slot k
