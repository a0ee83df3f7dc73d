-- Groups that are extracted from an image.
use Rattle.std.specs.Prelude.{ℕ, ◌+◌, Bool, if◌then◌else◌, List, [], ◌++◌, map}
use Rattle.mm_model.specs.{Slot.Slot, Image.Image}
use Rattle.mm_audit.specs.Refusals.{IsRefused}
use Rattle.mm_load.specs.declared.status.Refusal.{Refusal, TheVariants.{NoGroup, Crosses}}
use Rattle.mm_audit.specs.declared.refusals.Refused.TheVariants as refused

-- why the groups are refused: they have no slot; or else one of their slots has its handler outside of the groups, and
-- this is the least such slot
abbrev pub GroupsRefused : Image → (ℕ → Bool) → Refusal → Type 0
GroupsRefused i c NoGroup = IsRefused i c refused.NoGroup
GroupsRefused i c (Crosses n) = IsRefused i c (refused.Crosses n)
GroupsRefused i c _ = ⊥

-- the numbers of the slots, with `from` added to each
abbrev pub named : ℕ → List Slot → List ℕ
named from slots = map (λ s. from + s.number) slots

-- the items that name an image's slots and, if the image is split, their ports
abbrev pub members_of : Image → List ℕ
members_of i = named 0 i.slots ++ (if i.split then named 128 i.slots else [])
