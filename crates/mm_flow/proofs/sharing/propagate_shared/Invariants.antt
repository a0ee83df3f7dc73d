use Rattle.std.{proofs.Common.{◌≡◌, ℕ, ◌↔◌}, specs.Int.bit_at}
use Rattle.mm_flow.specs.Sharing.{SharedBy, PropagatingShared}
use Rattle.mm_flow.proofs.sharing.propagate_shared.Given as goal

abbrev pub invariant-loop-k : goal.invariant-loop-k
invariant-loop-k l = PropagatingShared l.k l.sharing l.fn.marks l.marks l.changed × ((g : ℕ) → (bit_at l.shared_now g ≡ 1) ↔ SharedBy 64 l.last l.sharing g)
