use Rattle.std.{proofs.Common.take, specs.List.flat_map}
use Rattle.mm_text.specs.Appends.{Appends}
use Rattle.mm_log.specs.Lines.{line_text, Line.Issues}
use Rattle.mm_log.proofs.slots.put_loads.Given as goal

abbrev pub invariant-loop-load : goal.invariant-loop-load
invariant-loop-load g l = Appends g.O.Sink.taken g.O.Sink.faults l.initial.out l.out l.initial.text l.text (flat_map (λ load. line_text (Issues l.slot load)) (take l.load-index l.loads))
