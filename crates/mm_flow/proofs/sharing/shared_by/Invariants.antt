use Rattle.std.{proofs.Common.{◌≡◌, ℕ, ◌↔◌}, specs.Int.bit_at}
use Rattle.mm_flow.specs.Sharing.{SharedBy}
use Rattle.mm_flow.proofs.sharing.shared_by.Given as goal

abbrev pub invariant-loop-h : goal.invariant-loop-h
invariant-loop-h l = (g : ℕ) → (bit_at l.all g ≡ 1) ↔ SharedBy l.h l.mask l.sharing g
