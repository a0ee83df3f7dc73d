use Rattle.std.{proofs.Common.take, specs.List.AllZip}
use Rattle.mm_graph.specs.Masks.{IsEntrySeed}
use Rattle.mm_graph.proofs.entries.seeds_of.Given as goal

abbrev pub invariant-loop-entry : goal.invariant-loop-entry
invariant-loop-entry l = AllZip IsEntrySeed (take l.entry-index l.list) l.seeds.items
