use Rattle.std.proofs.Common.{◌^◌, ◌++◌, [], ◌∷◌}
use Rattle.mm_flow.specs.Flow.{room}
use Rattle.mm_why.specs.Rounds.{FirstRounds}
use Rattle.mm_why.proofs.rounds.all_rounds.Given as goal

abbrev pub invariant-loop-rounds : goal.invariant-loop-rounds
invariant-loop-rounds l = FirstRounds l.links l.meets (l.rounds.items ++ l.now ∷ [])

abbrev pub decreases-loop-rounds : goal.decreases-loop-rounds
decreases-loop-rounds l = room (2 ^ 64) l.now
