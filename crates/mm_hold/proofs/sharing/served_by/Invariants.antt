use Rattle.std.proofs.Common.{take}
use Rattle.mm_hold.specs.Parties.{Is, ServedParty}
use Rattle.mm_hold.proofs.sharing.served_by.Given as goal

abbrev pub invariant-loop-slot : goal.invariant-loop-slot
invariant-loop-slot l = Is l.parties (ServedParty l.kernel.image l.kernel.kept (take l.slot-index l.slots) l.number)
