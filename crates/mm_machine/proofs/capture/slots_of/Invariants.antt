use Rattle.std.proofs.Common.{◌≡◌, take}
use Rattle.mm_model.specs.Fits.{slots_of}
use Rattle.mm_machine.proofs.capture.slots_of.Given as goal

abbrev pub invariant-loop-i : goal.invariant-loop-i
invariant-loop-i l = l.slots.items ≡ take l.i (slots_of l.core)
