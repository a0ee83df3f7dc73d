use Rattle.std.proofs.Common.{◌≡◌, take}
use Rattle.mm_mem.specs.Unpacked.{fulls_of}
use Rattle.mm_mem.proofs.packed.fulls_of.Given as goal

abbrev pub invariant-loop-i : goal.invariant-loop-i
invariant-loop-i l = l.byte ≡ fulls_of (take l.i l.cells)
