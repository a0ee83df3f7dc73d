-- The links of one slot.
use Rattle.std.specs.Prelude.{◌≡◌, ℕ, ◌<◌, ◌⊎◌, List, length, slice_index_or, Some}
use Rattle.mm_flow.specs.Flow.{Has}
use Rattle.mm_model.specs.Slot.{Slot}

-- two groups are linked both ways
pub record IsLink (a b : ℕ) (old new : List ℕ) : Type 0 where
  pub len : length new ≡ length old
  pub only : (h g : ℕ) → Has new h g → Has old h g ⊎ (((a ≡ h) × (b ≡ g)) ⊎ ((b ≡ h) × (a ≡ g)))
  pub keeps : (h g : ℕ) → Has old h g → Has new h g
  pub there : a < 64 → b < 64 → Has new a b × Has new b a

-- the second slot is the handler of the first, and their groups are these
pub record Handles (served server : Slot) (h g : ℕ) : Type 0 where
  pub handled : served.handler ≡ Some server.number
  pub groups : ((served.group ≡ h) × (server.group ≡ g)) ⊎ ((server.group ≡ h) × (served.group ≡ g))

pub record LinksTo (served server : Slot) (old new : List ℕ) : Type 0 where
  pub len : length new ≡ length old
  pub only : (h g : ℕ) → Has new h g → Has old h g ⊎ Handles served server h g
  pub keeps : (h g : ℕ) → Has old h g → Has new h g
  pub each : (h g : ℕ) → h < 64 → g < 64 → Handles served server h g → Has new h g

-- one of the first `count` slots is the handler of the slot, and their groups are these
pub record ServedBy (slots : List Slot) (served : Slot) (count h g : ℕ) : Type 0 where
  pub at : ℕ
  pub small : at < count
  pub server : Slot
  pub is : slice_index_or slots at server ≡ server
  pub handles : Handles served server h g

pub record LinksOne (slots : List Slot) (served : Slot) (count : ℕ) (old new : List ℕ) : Type 0 where
  pub len : length new ≡ length old
  pub only : (h g : ℕ) → Has new h g → Has old h g ⊎ ServedBy slots served count h g
  pub keeps : (h g : ℕ) → Has old h g → Has new h g
  pub each : (h g : ℕ) → h < 64 → g < 64 → ServedBy slots served count h g → Has new h g
