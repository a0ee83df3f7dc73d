use Rattle.std.{proofs.Common.{◌≡◌, ◌++◌, take}, specs.List.All}
use Rattle.mm_graph.specs.{Key.IsKey, Found.word_seeds}
use Rattle.mm_graph.proofs.seed.add_words.Given as goal

abbrev pub invariant-loop-k : goal.invariant-loop-k
invariant-loop-k l = (l.seeds.items ≡ l.fn.seeds.items ++ word_seeds l.group (take l.k l.words)) × All (λ s. IsKey s.key) l.seeds.items
