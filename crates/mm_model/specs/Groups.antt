-- Sets of groups.
use Rattle.std.specs.{Prelude.{◌≡◌, ℕ, Bool, true, false, ◌==◌, List, Contains, Some}, List.{list_any, filter}}
use Rattle.mm_model.specs.{Slot.Slot, Image.Image}

-- the group is one of the list
abbrev pub among : List ℕ → ℕ → Bool
among groups g = list_any (λ h. g == h) groups

-- a slot is of the group
abbrev pub has_group : List Slot → ℕ → Bool
has_group slots g = list_any (λ s. s.group == g) slots

-- the slots that are of one of the groups
abbrev pub own_slots : (ℕ → Bool) → List Slot → List Slot
own_slots c slots = filter (λ s. c s.group) slots

-- a slot is of one of the groups
pub record HasSlot (i : Image) (c : ℕ → Bool) : Type 0 where
  pub slot : Slot
  pub stands : Contains i.slots slot
  pub member : c slot.group ≡ true

-- no slot is of one of the groups
abbrev pub HasNoGroup : Image → (ℕ → Bool) → Type 0
HasNoGroup i c = (s : Slot) → Contains i.slots s → c s.group ≡ false

-- each slot that is of one of the groups has its handler, if any, among them
abbrev pub HandlersStayInside : Image → (ℕ → Bool) → Type 0
HandlersStayInside i c = (s h : Slot) → Contains i.slots s → Contains i.slots h → s.handler ≡ Some h.number
    → c s.group ≡ true → c h.group ≡ true

-- a slot of this number is of one of the groups
pub record HasSlotAt (slots : List Slot) (c : ℕ → Bool) (n : ℕ) : Type 0 where
  pub slot : Slot
  pub stands : Contains slots slot
  pub number : slot.number ≡ n
  pub member : c slot.group ≡ true
