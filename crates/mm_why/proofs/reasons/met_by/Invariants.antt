use Rattle.std.{proofs.Common.{◌≡◌, ℕ, ◌<◌}, specs.Int.bit_at}
use Rattle.mm_why.specs.Reasons.{NoMeeting}
use Rattle.mm_why.proofs.reasons.met_by.Given as goal

abbrev pub invariant-loop-by : goal.invariant-loop-by
invariant-loop-by l = (k : ℕ) → k < l.by → bit_at l.mask k ≡ 1 → NoMeeting l.meets l.now k l.to 64
