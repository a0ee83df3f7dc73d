use Rattle.std.proofs.Common.{◌≡◌, take}
use Rattle.mm_machine.proofs.capture.pages_of.Given as goal

abbrev pub invariant-loop-i : goal.invariant-loop-i
invariant-loop-i g l = l.pages.items ≡ take l.i (g.M.Memory.meaning l.mem).pages
