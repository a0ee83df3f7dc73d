-- What is found of a kernel and its groups, before it is told.
use Rattle.std.specs.Prelude.{◌≡◌, ◌⊎◌, ℕ, Bool, ◌&&◌, ◌==◌, if◌then◌else◌, List, [], ◌∷◌, ◌++◌, map, Option, Some, None}
use Rattle.std.specs.List.{AllByRecursion, filter}
use Rattle.mm_word.specs.Pointer.{Pointer}
use Rattle.mm_model.specs.{Slot.Slot, Image.{Image, start}, Report.groups_of}
use Rattle.mm_kernel.specs.{Segments.Segment, Threads.is_kernel_slot, declared.fact.Leak.Leak}
use Rattle.mm_kernel.specs.declared.thread.Origin.{Origin, TheVariants.{Door, Slot as OfSlot}}
use Rattle.mm_keep_text.specs.declared.told.Answer.{Answer, TheVariants.{Found}}
use Rattle.mm_keep_text.specs.{Told.Told, Answers.{IsAnswer, IsTold}}
use Rattle.mm_hold.specs.Holdings.{AreHoldings, HoldsDoor}
use Rattle.mm_confine_text.specs.declared.kept.{Group.Group, Reach.Reach, Kept.Kept}

-- 1. A group.

-- the slots of a group that are of the kernel
abbrev pub slots_of_kernel : Image → List Segment → ℕ → List ℕ
slots_of_kernel i kept g =
    map (λ (s : Slot). s.number) (filter (λ s. (s.group == g) && is_kernel_slot kept s) i.slots)

-- the number of a slot, if it is of a group and of the kernel
abbrev pub slot_if : List Segment → ℕ → Slot → List ℕ
slot_if kept g s = if (s.group == g) && is_kernel_slot kept s then s.number ∷ [] else []

abbrev pub IsGroup : Image → List Segment → Group → Type 0
IsGroup i kept group = group.slots.items ≡ slots_of_kernel i kept group.number

abbrev pub numbers_of : List Group → List ℕ
numbers_of groups = map (λ (g : Group). g.number) groups

-- these are the groups of the numbers
pub record AreGroups (i : Image) (kept : List Segment) (numbers : List ℕ) (groups : List Group) : Type 0 where
  pub numbers_are : numbers_of groups ≡ numbers
  pub each : AllByRecursion (IsGroup i kept) groups

-- a group that is present
abbrev pub if_present : Bool → ℕ → List ℕ
if_present present g = if present then g ∷ [] else []

-- the groups of a list came to those that were found
pub record PutGroups (i : Image) (kept : List Segment) (numbers : List ℕ) (old new : List Group) : Type 0 where
  pub part : List Group
  pub groups : AreGroups i kept numbers part
  pub is : new ≡ old ++ part

-- 2. All groups.

-- what each group that has a slot can reach
pub record AreReached (i : Image) (kept : List Segment) (r : Reach) : Type 0 where
  pub groups : AreGroups i kept (groups_of (start i).core) r.groups.items
  pub holdings : AreHoldings i kept r.holdings

-- what groups can reach, if there is no leak
abbrev pub IsReachIf : Image → List Segment → List Leak → Option Reach → Type 0
IsReachIf i kept [] (Some r) = AreReached i kept r
IsReachIf i kept (leak ∷ leaks) None = Unit {0}
IsReachIf i kept _ _ = ⊥

-- after an answer: what groups can reach, if all was found and there is no leak
abbrev pub IsReach : Image → List Segment → Answer → Option Reach → Type 0
IsReach i kept (Found told) reach = IsReachIf i kept told.leaks reach
IsReach i kept _ None = Unit {0}
IsReach i kept _ (Some r) = ⊥

-- what is found of a kernel if all that its threads come to was found
pub record IsFound (i : Image) (kept : List Segment) (k : Kept) : Type 0 where
  pub told : Told
  pub is : k.answer ≡ Found told
  pub told_is : IsTold i kept told
  pub reach : IsReachIf i kept told.leaks k.reach

-- what is found of the kernel of an image and its groups, if at most `limit` threads may be found
pub record IsKept (i : Image) (kept : List Segment) (limit : ℕ) (k : Kept) : Type 0 where
  pub answer : IsAnswer i kept limit k.answer
  pub reach : IsReach i kept k.answer k.reach

-- 3. Doors.

-- the second list has the doors of the first that the callers of a group hold, in their order
abbrev pub HeldOf : Image → List Segment → ℕ → List Origin → List Pointer → Type 0
HeldOf i kept g [] doors = doors ≡ []
HeldOf i kept g (OfSlot n ∷ origins) doors = HeldOf i kept g origins doors
HeldOf i kept g (Door d ∷ origins) doors =
    ((HoldsDoor i kept g d → ⊥) × HeldOf i kept g origins doors)
    ⊎ (HoldsDoor i kept g d × ((rest : List Pointer) × (doors ≡ d ∷ rest) × HeldOf i kept g origins rest))
