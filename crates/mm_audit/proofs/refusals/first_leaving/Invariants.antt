use Rattle.std.proofs.Common.{◌≡◌, drop}
use Rattle.mm_audit.specs.Inside.{first_leaving}
use Rattle.mm_audit.proofs.refusals.first_leaving.Given as goal

abbrev pub invariant-loop-slot : goal.invariant-loop-slot
invariant-loop-slot l = first_leaving l.inside l.slots ≡ first_leaving l.inside (drop l.slot-index l.slots)
