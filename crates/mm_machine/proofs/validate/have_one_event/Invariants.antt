use Rattle.std.{proofs.Common.take, specs.List.AllByRecursion}
use Rattle.mm_machine.specs.Snapshot.{HasOneEvent}
use Rattle.mm_machine.proofs.validate.have_one_event.Given as goal

abbrev pub invariant-loop-slot : goal.invariant-loop-slot
invariant-loop-slot l = AllByRecursion (HasOneEvent l.events) (take l.slot-index l.slots)
