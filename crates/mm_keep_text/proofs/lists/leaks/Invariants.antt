use Rattle.std.{proofs.Common.take, specs.Prelude.Contains}
use Rattle.mm_keep_text.{specs.Keys.{leak_key, leak_from}, proofs.Listing.Lists}
use Rattle.mm_keep_text.proofs.lists.leaks.Given as goal

abbrev pub invariant-loop-k : goal.invariant-loop-k
invariant-loop-k l = Lists leak_key leak_from (Contains (take l.k l.tables.leaks)) l.listed.entries
