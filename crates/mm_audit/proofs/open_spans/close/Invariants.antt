use Rattle.std.proofs.Common.{◌≡◌, ℕ, ◌<◌, ◌≤◌, length, take}
use Rattle.mm_audit.specs.Opening.{open_end}
use Rattle.mm_audit.proofs.open_spans.close.Given as goal

abbrev pub invariant-loop-stack : goal.invariant-loop-stack
invariant-loop-stack l = record {
  fits : length l.stack.items ≤ length l.fn.stack.items;
  front : l.stack.items ≡ take (length l.stack.items) l.fn.stack.items;
  ended : (n : ℕ) → length l.stack.items ≤ n → n < length l.fn.stack.items → open_end l.fn.stack.items n ≤ l.base;
}

abbrev pub decreases-loop-stack : goal.decreases-loop-stack
decreases-loop-stack l = length l.stack.items
