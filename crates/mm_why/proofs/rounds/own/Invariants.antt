use Rattle.mm_why.specs.Rounds.{OwnSoFar}
use Rattle.mm_why.proofs.rounds.own.Given as goal

abbrev pub invariant-loop-g : goal.invariant-loop-g
invariant-loop-g l = OwnSoFar l.g l.masks
