use Rattle.std.{proofs.Common.{◌≡◌, ℕ, ◌<◌}, specs.Int.bit_at}
use Rattle.mm_flow.specs.{Flow.Has, Reached.SharingSoFar}
use Rattle.mm_flow.proofs.reach.fill.Given as goal

abbrev pub invariant-loop-m : goal.invariant-loop-m
invariant-loop-m l = SharingSoFar l.fn.sharing l.writes l.touches l.m l.sharing × ((h g : ℕ) → h < 64 → bit_at l.from h ≡ 1 → bit_at l.to g ≡ 1 → Has l.sharing h g)
