use Rattle.std.{proofs.Common.take, specs.List.{flat_map, range_with_len}}
use Rattle.mm_text.specs.Appends.{Appends}
use Rattle.mm_model.specs.Lines.{register_line}
use Rattle.mm_text.proofs.slots.put_registers.Given as goal

abbrev pub invariant-loop-number : goal.invariant-loop-number
invariant-loop-number g l =
    Appends g.O.Sink.taken g.O.Sink.faults l.initial.out l.out l.initial.text l.text (flat_map (register_line l.slot) (take l.number (range_with_len 0 16)))
