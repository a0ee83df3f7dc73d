use Rattle.std.proofs.Common.{◌≡◌, ℕ, ◌+◌, ◌*◌, ◌<◌, false}
use Rattle.mm_audit.specs.Own.{is_covered}
use Rattle.mm_audit.proofs.kept_parts.has_word.Given as goal

abbrev pub invariant-loop-cell_index : goal.invariant-loop-cell_index
invariant-loop-cell_index l = (k : ℕ) → k < l.cell_index → is_covered l.set (l.page * 4096 + 8 * k) ≡ false
