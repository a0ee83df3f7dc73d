use Rattle.std.{proofs.Common.take, specs.List.AllByRecursion}
use Rattle.mm_machine.specs.Snapshot.{IsTypedEvent}
use Rattle.mm_machine.proofs.snapshot.typed.Given as goal

-- of the events so far
abbrev pub invariant-loop-event : goal.invariant-loop-event
invariant-loop-event l = AllByRecursion IsTypedEvent (take l.event-index l.events)
