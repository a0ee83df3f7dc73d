use Rattle.std.proofs.Common.{take}
use Rattle.mm_text.specs.Appends.{Appends}
use Rattle.mm_sweep.specs.Holders.{cell_holders}
use Rattle.mm_sweep.proofs.holding.put_cells.Given as goal

abbrev pub invariant-loop-index : goal.invariant-loop-index
invariant-loop-index g l = Appends g.O.Sink.taken g.O.Sink.faults l.initial.out l.out l.initial.text l.text (cell_holders l.range l.start (take l.index l.page.1))
