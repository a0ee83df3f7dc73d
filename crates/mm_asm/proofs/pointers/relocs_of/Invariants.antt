use Rattle.std.proofs.Common.{◌≡◌, take}
use Rattle.mm_asm.proofs.{Built.numbered, BuiltNumbered.relocs_in}
use Rattle.mm_asm.proofs.pointers.relocs_of.Given as goal

abbrev pub invariant-loop-number : goal.invariant-loop-number
invariant-loop-number l = l.relocs.items ≡ numbered (relocs_in l.draft) 0 (take l.number l.segment-items)
