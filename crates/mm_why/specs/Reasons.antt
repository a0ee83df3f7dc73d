-- Why all that a group has comes to another in a round.
use Rattle.std.specs.{Prelude.{◌≡◌, ℕ, ◌<◌, List}, Int.bit_at}
use Rattle.mm_flow.specs.Flow.{Has}
use Rattle.mm_why.specs.declared.reasons.{Hand.Hand, Handoff.Handoff}
use Rattle.mm_why.specs.declared.reasons.Hand.TheVariants as hands

-- the group is one of the mask, and has the other in the table
pub record IsFirstIn (mask : ℕ) (table : List ℕ) (to k : ℕ) : Type 0 where
  pub small : k < 64
  pub is_in : bit_at mask k ≡ 1
  pub has : Has table k to

-- the groups meet; what the one has has come to the group `by`, and what the other has to the group `to`
pub record IsMeeting (meets now : List ℕ) (by to giver taker : ℕ) : Type 0 where
  pub small_giver : giver < 64
  pub small_taker : taker < 64
  pub meet : Has meets giver taker
  pub come_by : Has now giver by
  pub come_to : Has now taker to

-- no groups meet so, of which the giver's number is below `top`
abbrev pub NoMeeting : List ℕ → List ℕ → ℕ → ℕ → ℕ → Type 0
NoMeeting meets now by to top = (a b : ℕ) → a < top → IsMeeting meets now by to a b → ⊥

-- how the group `by` hands to the group `to`
abbrev pub IsHand : List ℕ → List ℕ → List ℕ → ℕ → ℕ → Hand → Type 0
IsHand links meets now by to hands.Linked = Has links by to
IsHand links meets now by to (hands.Met giver taker) = IsMeeting meets now by to giver taker

-- all that the owner has has come to a group that hands to the group `to`
pub record IsHandoff (links meets now : List ℕ) (owner to : ℕ) (r : Handoff) : Type 0 where
  pub small : r.by < 64
  pub come : Has now owner r.by
  pub hand : IsHand links meets now r.by to r.hand
