use Rattle.std.proofs.Common.{◌≡◌}
use Rattle.mm_model.specs.Slot.{Slot}
use Rattle.mm_sweep.proofs.SweptWords.{swept_upto}
use Rattle.mm_sweep.proofs.words.swept_slot.Given as goal

abbrev pub invariant-loop-number : goal.invariant-loop-number
invariant-loop-number l = ◌≡◌ {A = Slot} l.swept (record l.slot { regs = swept_upto l.range l.number l.slot.regs })
