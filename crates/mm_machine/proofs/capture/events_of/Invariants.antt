use Rattle.std.{proofs.Common.{◌≡◌, take}, specs.List.flat_map}
use Rattle.mm_model.specs.Fits.{slots_of}
use Rattle.mm_machine.specs.Snapshot.{queued_at}
use Rattle.mm_machine.proofs.capture.events_of.Given as goal

abbrev pub invariant-loop-i : goal.invariant-loop-i
invariant-loop-i l = l.events.items ≡ flat_map (queued_at l.core) (take l.i (slots_of l.core))
