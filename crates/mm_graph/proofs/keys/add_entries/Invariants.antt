use Rattle.std.{proofs.Common.{◌≡◌, ◌++◌, take, length}, specs.List.filter_map}
use Rattle.mm_graph.specs.Key.{entry_key}
use Rattle.mm_graph.proofs.keys.add_entries.Given as goal

abbrev pub invariant-loop-k : goal.invariant-loop-k
invariant-loop-k l = (l.keys.items ≡ l.fn.keys.items ++ filter_map entry_key (take l.k l.fn.keys.items)) × (l.count ≡ length l.fn.keys.items)
