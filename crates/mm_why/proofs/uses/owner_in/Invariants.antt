use Rattle.std.{proofs.Common.{◌≡◌, ℕ, ◌<◌}, specs.Int.bit_at}
use Rattle.mm_flow.specs.Flow.{Has}
use Rattle.mm_why.proofs.uses.owner_in.Given as goal

abbrev pub invariant-loop-group : goal.invariant-loop-group
invariant-loop-group l = (h : ℕ) → h < l.group → bit_at l.owners h ≡ 1 → Has l.now h l.to → ⊥
