use Rattle.std.proofs.Common.{◌↔◌, take}
use Rattle.mm_confine.specs.declared.party.Party.{Party}
use Rattle.mm_hold.specs.Parties.{Shares, PassesAlways}
use Rattle.mm_hold.proofs.sharing.sharing_of.Given as goal

abbrev pub invariant-loop-slot : goal.invariant-loop-slot
invariant-loop-slot l = (y x : Party) → Shares l.sharing y x ↔ PassesAlways l.kernel.image l.kernel.kept l.conduct (take l.slot-index l.slots) y x
