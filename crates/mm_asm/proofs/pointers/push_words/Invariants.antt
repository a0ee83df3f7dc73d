use Rattle.std.proofs.Common.{◌≡◌, ◌++◌, take}
use Rattle.mm_asm.proofs.{Built.numbered, BuiltNumbered.reloc_at}
use Rattle.mm_asm.proofs.pointers.push_words.Given as goal

abbrev pub invariant-loop-k : goal.invariant-loop-k
invariant-loop-k l = l.relocs.items ≡ l.initial.relocs.items ++ numbered (reloc_at l.draft l.segment) 0 (take l.k l.words)
