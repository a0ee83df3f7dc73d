use Rattle.std.{proofs.Common.take, specs.Prelude.Contains}
use Rattle.mm_keep_text.{specs.Keys.{pointer_key, pointer_from}, proofs.Listing.Lists}
use Rattle.mm_keep_text.proofs.lists.doors.Given as goal

abbrev pub invariant-loop-k : goal.invariant-loop-k
invariant-loop-k l = Lists pointer_key pointer_from (Contains (take l.k l.tables.doors)) l.listed.entries
