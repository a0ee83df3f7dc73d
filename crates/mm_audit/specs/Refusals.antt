-- Whether the slots of some groups can stand alone.
use Rattle.std.specs.Prelude.{◌≡◌, ℕ, ◌≤◌, Bool, true}
use Rattle.mm_model.specs.{Image.Image, Groups.{HasSlot, HasNoGroup, HandlersStayInside}, Audit.Crosses}
use Rattle.mm_audit.specs.declared.{refusals.Refused.Refused, extracting.ExtractError.ExtractError}
use Rattle.mm_audit.specs.declared.refusals.Refused.TheVariants as refused
use Rattle.mm_audit.specs.declared.extracting.ExtractError.TheVariants as errors

-- a slot of this number is of one of the groups, and its handler is of none of them
pub record CrossesOut (i : Image) (c : ℕ → Bool) (n : ℕ) : Type 0 where
  pub crosses : Crosses i c n
  pub inside : c crosses.served.group ≡ true

-- the least slot of the groups with a handler of another group
pub record FirstCrossing (i : Image) (c : ℕ → Bool) (n : ℕ) : Type 0 where
  pub crosses : CrossesOut i c n
  pub least : (m : ℕ) → CrossesOut i c m → n ≤ m

-- a slot is of one of the groups, and each of their slots has its handler, if any, among them
pub record StandAlone (i : Image) (c : ℕ → Bool) : Type 0 where
  pub some : HasSlot i c
  pub closed : HandlersStayInside i c

-- why the slots of the groups cannot stand alone
abbrev pub IsRefused : Image → (ℕ → Bool) → Refused → Type 0
IsRefused i c refused.NoGroup = HasNoGroup i c
IsRefused i c (refused.Crosses n) = HasSlot i c × FirstCrossing i c n

-- why there is no image of the groups alone; memory is asked for only if their slots can stand alone
abbrev pub IsExtractError : Image → (ℕ → Bool) → ExtractError → Type 0
IsExtractError i c errors.NoGroup = HasNoGroup i c
IsExtractError i c (errors.Crosses n) = HasSlot i c × FirstCrossing i c n
IsExtractError i c errors.NoMemory = StandAlone i c
