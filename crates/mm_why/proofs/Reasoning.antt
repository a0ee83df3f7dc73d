-- Reasons in a round.
use Rattle.std.{proofs.Common.{◌≡◌, ℕ, ◌<◌, List, slice_index, ap, ◌∙◌}, specs.Int.bit_at}
use Rattle.mm_flow.specs.Flow.{Has}
use Rattle.mm_why.specs.{Rounds.{Hands, HandsOn, Hands.{linked, met}}, Reasons.NoMeeting}

pub no_reason : (links meets now : List ℕ) (owner to mask : ℕ) → mask ≡ slice_index now owner
    → ((k : ℕ) → k < 64 → bit_at mask k ≡ 1 → Has links k to → ⊥)
    → ((k : ℕ) → k < 64 → bit_at mask k ≡ 1 → NoMeeting meets now k to 64) → HandsOn links meets now owner to → ⊥
no_reason links meets now owner to mask e none_linked none_met h = at h.hands
  where
    in_mask : bit_at mask h.by ≡ 1
    in_mask = ap (λ v. bit_at v h.by) e ∙ h.has

    at : Hands links meets now h.by to → ⊥
    at (linked x) = none_linked h.by h.small in_mask x
    at (met a b la lb m x y) = none_met h.by h.small in_mask a b la (record { small_giver = la; small_taker = lb; meet = m; come_by = x; come_to = y })
