use Rattle.std.{proofs.Common.{◌≡◌, ◌++◌, take}, specs.List.{All, flat_map}}
use Rattle.mm_graph.specs.Key.{IsKey}
use Rattle.mm_hold.specs.Finding.{word_seed}
use Rattle.mm_hold.proofs.found.add_words.Given as goal

abbrev pub invariant-loop-k : goal.invariant-loop-k
invariant-loop-k l = (l.seeds.items ≡ l.fn.seeds.items ++ flat_map (word_seed l.kept l.group) (take l.k l.words)) × All (λ s. IsKey s.key) l.seeds.items
