-- Groups that stand apart cannot tell what the others do.
use Rattle.std.specs.{Prelude.{◌≡◌, ℕ, Bool, true, false, List}, List.filter}
use Rattle.mm_model.specs.{Memory.cell_at, State.{ThreadRow, State, output_of}, Image.{Image, start}, Groups.HasSlot}
use Rattle.mm_model.specs.{Spelling.IsImage, Fits.{IsState, Fits}, Schedule.{is_kept, only}, Run.{turn_of, after, run}}
use Rattle.mm_model.specs.{Reach.Entries.All, Worlds.{Touchable, Apart, Agree, SameView, Extracts, alone}}
use Rattle.mm_laws.specs.Granted.{WordsGranted}

-- 1. Two states that are alike to the groups.

-- the slot is of one of the groups
abbrev pub is_row_of : (ℕ → Bool) → ThreadRow → Bool
is_row_of c row = c row.slot.group

-- the slots of the groups with their queues, the outputs of the groups, and the cells at the words that they can touch
-- are equal
pub record Alike (i : Image) (c : ℕ → Bool) (s t : State) : Type 0 where
  pub rows : filter (is_row_of c) s.core.rows ≡ filter (is_row_of c) t.core.rows
  pub outputs : (g : ℕ) → c g ≡ true → output_of s.core g ≡ output_of t.core g
  pub cells : (w : ℕ) → Touchable i All c w → cell_at s.memory w ≡ cell_at t.memory w

-- two images that agree on the groups, which stand apart in both
pub record AgreeApart (i j : Image) (c : ℕ → Bool) : Type 0 where
  pub one : IsImage i
  pub other : IsImage j
  pub agree : Agree i j c
  pub one_apart : Apart i All c
  pub other_apart : Apart j All c

-- two states that each fit their image, with words that are granted if anything may be entered, and that are alike to
-- the groups
pub record Worlds (i j : Image) (c : ℕ → Bool) (s t : State) : Type 0 where
  pub one_state : IsState s
  pub one : Fits i s
  pub one_words : WordsGranted i All s
  pub other_state : IsState t
  pub other : Fits j t
  pub other_words : WordsGranted j All t
  pub alike : Alike i c s t

-- 2. The laws.

-- The same turn of the groups, which may be one of a port, goes on in both worlds, and has the same step. A turn
-- outside the groups goes on in one of them alone.
pub record WorldsGoOn (i j : Image) (c : ℕ → Bool) (s t : State) (n : ℕ) : Type 0 where
  pub both : is_kept i c n ≡ true → Worlds i j c (after s n) (after t n)
  pub step : is_kept i c n ≡ true → (turn_of s n).step ≡ (turn_of t n).step
  pub one : is_kept i c n ≡ false → Worlds i j c (after s n) t
  pub other : is_kept j c n ≡ false → Worlds i j c s (after t n)

abbrev pub WorldsStep : Type 0
WorldsStep = (i j : Image) (c : ℕ → Bool) (s t : State) (n : ℕ) → AgreeApart i j c → Worlds i j c s t
    → WorldsGoOn i j c s t n

-- after two lists with the same items of the groups, the groups see the same
pub record SameWorlds (i j : Image) (c : ℕ → Bool) (s t : List ℕ) : Type 0 where
  pub alike : Alike i c (run (start i) s) (run (start j) t)
  pub view : SameView i s j t c

abbrev pub TwoWorlds : Type 0
TwoWorlds = (i j : Image) (c : ℕ → Bool) (s t : List ℕ) → AgreeApart i j c → only i s c ≡ only j t c
    → SameWorlds i j c s t

-- if groups with a slot stand apart, the image of their slots alone agrees with the whole image on them, and they stand
-- apart in it
abbrev pub AloneAgrees : Type 0
AloneAgrees = (i : Image) (c : ℕ → Bool) → IsImage i → HasSlot i c → Apart i All c → AgreeApart i (alone i c) c

-- if groups with a slot stand apart, each image that extracts them agrees with the whole image on them, and they stand
-- apart in it
abbrev pub ExtractsAgree : Type 0
ExtractsAgree = (i : Image) (c : ℕ → Bool) (j : Image) → IsImage i → HasSlot i c → Apart i All c → Extracts i c j
    → AgreeApart i j c

-- what the groups see of a run is what they see alone, with their own items
abbrev pub AloneSeesTheSame : Type 0
AloneSeesTheSame = (i : Image) (c : ℕ → Bool) (s : List ℕ) → IsImage i → HasSlot i c → Apart i All c
    → SameWorlds i (alone i c) c s (only i s c)

abbrev pub ExtractsSeeTheSame : Type 0
ExtractsSeeTheSame = (i : Image) (c : ℕ → Bool) (j : Image) (s : List ℕ) → IsImage i → HasSlot i c → Apart i All c
    → Extracts i c j → SameWorlds i j c s (only i s c)
