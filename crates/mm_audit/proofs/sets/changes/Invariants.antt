use Rattle.std.{proofs.Common.{◌≡◌, ℕ, ◌+◌}, specs.Int.bit_at}
use Rattle.mm_audit.specs.GroupSets.{SameUsers}
use Rattle.mm_audit.proofs.sets.changes.Given as goal

abbrev pub invariant-loop-span : goal.invariant-loop-span
invariant-loop-span l = (g : ℕ) → (bit_at l.all g ≡ 1 → ⊥) → SameUsers l.spans l.how g (g + 1) l.span-index
