use Rattle.std.proofs.Common.{take}
use Rattle.mm_endless.specs.Stages.{IsLeastOf}
use Rattle.mm_endless.proofs.walk.least.Given as goal

-- the least of the numbers so far
abbrev pub invariant-loop-number : goal.invariant-loop-number
invariant-loop-number l = IsLeastOf (take l.number-index l.numbers) l.least
