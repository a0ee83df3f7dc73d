use Rattle.std.{proofs.Common.{◌≡◌, ℕ, ◌<◌, ◌≤◌}, specs.Int.bit_at}
use Rattle.mm_audit.specs.{Spans.base_at, Opening.AreOpen, Meeting.{HaveMet, HasWord}}
use Rattle.mm_audit.proofs.least_shared.least_words.Given as goal

abbrev pub invariant-loop-k : goal.invariant-loop-k
invariant-loop-k l = record {
  stack : (from : ℕ) → ((n : ℕ) → n < l.k → base_at l.spans n ≤ from) → AreOpen l.spans l.k from l.stack.items;
  met : HaveMet l.spans l.k l.table.items;
  last : (h g : ℕ) → h < 64 → g < 64 → bit_at l.last.write h ≡ 1 → bit_at l.last.touch g ≡ 1 → HasWord l.table.items h g;
}
