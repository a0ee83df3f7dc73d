-- Schedules: what a text means, where its fault is, and restriction to groups.
use Rattle.std.specs.Prelude.{◌≡◌, ℕ, ◌-◌, ◌≤◌, ◌⊎◌, Bool, false, ◌||◌, ◌&&◌, nat_le, List, ◌∷◌, ◌++◌, length, take}
use Rattle.std.specs.{Prelude.{replicate, decimal, Option, Some, None}, List.filter}
use Rattle.mm_model.specs.{Slot.Slot, Image.{Image, slot_in}, Words.{TextMeans, TextFaultsAt}}

-- the most items of a schedule or of a net
abbrev pub item_limit : ℕ
item_limit = 1000000

-- 1. What a text means.

-- the word says `count` items of a number: `N`, which is one, or `N*K`
pub record IsItem (word : List ℕ) (number count : ℕ) : Type 0 where
  pub number_limit : number ≤ 255
  pub some : 1 ≤ count
  pub count_limit : count ≤ item_limit
  pub spelled : ((word ≡ decimal number) × (count ≡ 1)) ⊎ (word ≡ decimal number ++ 42 ∷ decimal count)

-- the word says the items: `count` copies of `number`
pub record SaysItems (word items : List ℕ) : Type 0 where
  pub number : ℕ
  pub count : ℕ
  pub item : IsItem word number count
  pub repeated : items ≡ replicate count number

-- the list holds no more items than a schedule may
abbrev pub FitsLimit : List ℕ → Type 0
FitsLimit items = length items ≤ item_limit

-- the text means the list
abbrev pub Means : List ℕ → List ℕ → Type 0
Means text items = TextMeans SaysItems FitsLimit text items

-- The text's fault is at a place: there begins the first run that is no item, or that brings the count of items above
-- the limit.
abbrev pub FaultsAt : List ℕ → ℕ → Type 0
FaultsAt text offset = TextFaultsAt SaysItems FitsLimit text offset

-- 2. The items that are issued.

-- the first `count` items
abbrev pub first_items : List ℕ → ℕ → List ℕ
first_items items count = take count items

abbrev pub in_groups : (ℕ → Bool) → Option Slot → Bool
in_groups c None = false
in_groups c (Some s) = c s.group

-- an item is a slot of the groups or, if the machine is split, the port of one
abbrev pub is_kept : Image → (ℕ → Bool) → ℕ → Bool
is_kept i c n = in_groups c (slot_in i.slots n) || (i.split && nat_le 128 n && in_groups c (slot_in i.slots (n - 128)))

-- the items of the groups, idle ones included
unfoldable pub only : Image → List ℕ → (ℕ → Bool) → List ℕ
only i items c = filter (is_kept i c) items
