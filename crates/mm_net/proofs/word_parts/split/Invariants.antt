use Rattle.std.proofs.Common.{◌≡◌, false, take}
use Rattle.mm_net.specs.Marks.{has}
use Rattle.mm_net.proofs.word_parts.split.Given as goal

abbrev pub invariant-loop-at : goal.invariant-loop-at
invariant-loop-at l = has l.mark (take l.at l.word) ≡ false
