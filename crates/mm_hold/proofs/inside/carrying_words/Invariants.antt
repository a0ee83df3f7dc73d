use Rattle.std.{proofs.Common.take, specs.{Prelude.Contains, List.flat_map}}
use Rattle.mm_hold.specs.{Deeds.carrying_in, Conducts.AreAll}
use Rattle.mm_hold.proofs.inside.carrying_words.Given as goal

abbrev pub invariant-loop-k : goal.invariant-loop-k
invariant-loop-k l = AreAll (Contains (flat_map carrying_in (take l.k l.tables.stored))) l.words.keys
