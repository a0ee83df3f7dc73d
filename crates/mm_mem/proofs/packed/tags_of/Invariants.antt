use Rattle.std.proofs.Common.{◌≡◌, take}
use Rattle.mm_mem.specs.Unpacked.{tags_of}
use Rattle.mm_mem.proofs.packed.tags_of.Given as goal

abbrev pub invariant-loop-i : goal.invariant-loop-i
invariant-loop-i l = l.byte ≡ tags_of (take l.i l.cells)
