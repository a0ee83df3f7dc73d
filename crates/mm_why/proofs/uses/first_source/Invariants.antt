use Rattle.mm_why.specs.Owning.{NoSource}
use Rattle.mm_why.proofs.uses.first_source.Given as goal

abbrev pub invariant-loop-round : goal.invariant-loop-round
invariant-loop-round l = NoSource l.rounds.rounds.items l.owners l.to l.round
