use Rattle.std.proofs.Common.{◌≡◌, ◌++◌, take}
use Rattle.mm_asm.proofs.text_order.push_all.Given as goal

abbrev pub invariant-loop-u : goal.invariant-loop-u
invariant-loop-u l = l.uses.items ≡ l.initial.uses.items ++ take l.u-index l.more
