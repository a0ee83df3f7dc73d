-- The items of a list that stay for groups.
use Rattle.std.specs.Prelude.{◌≡◌, ℕ, ◌+◌, ◌↔◌, ◌⊎◌, Bool, true, false, List, [], ◌∷◌, ◌++◌, Some}
use Rattle.mm_model.specs.{Slot.Slot, State.slot_at, Image.{Image, start}, Groups.HasSlotAt, Spelling.IsImage}
use Rattle.mm_model.specs.{Schedule.only, Run.run}

-- the item names a slot of the groups or, in a split machine, the port of such a slot
abbrev pub Belongs : Image → (ℕ → Bool) → ℕ → Type 0
Belongs i c n = HasSlotAt i.slots c n ⊎ ((i.split ≡ true) × ((k : ℕ) × (n ≡ 128 + k) × HasSlotAt i.slots c k))

-- an item stays exactly if it belongs to the groups
abbrev pub RestrictionIsExact : Type 0
RestrictionIsExact = (i : Image) (c : ℕ → Bool) (n : ℕ) → IsImage i → (only i (n ∷ []) c ≡ n ∷ []) ↔ Belongs i c n

-- an item that does not belong to the groups goes, and nothing takes its place
abbrev pub RestrictionDrops : Type 0
RestrictionDrops = (i : Image) (c : ℕ → Bool) (n : ℕ) → IsImage i → (only i (n ∷ []) c ≡ []) ↔ (¬ Belongs i c n)

-- order and repeats stay: each part of a list is restricted by itself
abbrev pub RestrictionGoesByParts : Type 0
RestrictionGoesByParts = (i : Image) (c : ℕ → Bool) (a b : List ℕ) → only i (a ++ b) c ≡ only i a c ++ only i b c

-- no item stays for no group
abbrev pub NoGroupKeepsNone : Type 0
NoGroupKeepsNone = (i : Image) (items : List ℕ) → only i items (λ g. false) ≡ []

-- the order of two restrictions does not matter
abbrev pub RestrictionsCommute : Type 0
RestrictionsCommute =
    (i : Image) (items : List ℕ) (c d : ℕ → Bool) → only i (only i items c) d ≡ only i (only i items d) c

-- in a run of a restricted list no slot outside the groups takes a turn
abbrev pub OthersTakeNoTurn : Type 0
OthersTakeNoTurn =
    (i : Image) (items : List ℕ) (c : ℕ → Bool) → IsImage i → (n : ℕ) (s : Slot)
    → slot_at (run (start i) (only i items c)).core n ≡ Some s → c s.group ≡ false → s.turns ≡ 0
