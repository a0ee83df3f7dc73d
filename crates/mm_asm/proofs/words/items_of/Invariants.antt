use Rattle.std.proofs.Common.{◌≡◌, take}
use Rattle.mm_asm.proofs.{Built.numbered, BuiltNumbered.item_at}
use Rattle.mm_asm.proofs.words.items_of.Given as goal

abbrev pub invariant-loop-k : goal.invariant-loop-k
invariant-loop-k l = l.items.items ≡ numbered (item_at l.draft) 0 (take l.k l.words)
