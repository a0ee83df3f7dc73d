use Rattle.std.{proofs.Common.take, specs.List.flat_map}
use Rattle.mm_text.specs.Appends.{Appends}
use Rattle.mm_log.specs.{Seen.held_left, Log.text_of}
use Rattle.mm_log.proofs.slots.put_all_held.Given as goal

abbrev pub invariant-loop-one : goal.invariant-loop-one
invariant-loop-one g l = Appends g.O.Sink.taken g.O.Sink.faults l.initial.out l.out l.initial.text l.text (flat_map (λ h. text_of (held_left l.now h)) (take l.one-index l.held))
