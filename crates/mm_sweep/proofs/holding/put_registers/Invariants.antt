use Rattle.std.proofs.Common.{take}
use Rattle.mm_text.specs.Appends.{Appends}
use Rattle.mm_sweep.specs.Holders.{register_holders}
use Rattle.mm_sweep.proofs.holding.put_registers.Given as goal

abbrev pub invariant-loop-number : goal.invariant-loop-number
invariant-loop-number g l = Appends g.O.Sink.taken g.O.Sink.faults l.initial.out l.out l.initial.text l.text (register_holders l.range l.slot.number 0 (take l.number l.slot.regs))
