use Rattle.mm_why.specs.Rounds.{HandingSoFar}
use Rattle.mm_why.proofs.rounds.handing.Given as goal

abbrev pub invariant-loop-h : goal.invariant-loop-h
invariant-loop-h l = HandingSoFar l.links l.meets l.now l.h l.edges
