use Rattle.std.{proofs.Common.{◌≡◌, ℕ, ◌<◌, ◌↔◌, true}, specs.Int.bit_at}
use Rattle.mm_model.specs.Groups.{among}
use Rattle.mm_audit.proofs.apart_groups.mask_of.Given as goal

abbrev pub invariant-loop-g : goal.invariant-loop-g
invariant-loop-g l = (n : ℕ) → (bit_at l.mask n ≡ 1) ↔ ((n < l.g) × (among l.groups n ≡ true))
