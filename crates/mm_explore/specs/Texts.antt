-- The line of a schedule.
use Rattle.std.specs.Prelude.{ℕ, ◌+◌, ◌==◌, if◌then◌else◌, List, [], ◌∷◌, ◌++◌, codes, decimal}
use Rattle.std.specs.List.{flat_map}
use Rattle.mm_model.specs.Lines.{newline}

-- a number of equal items in a row
pub record Repeat : Type 0 where
  pub item : ℕ
  pub count : ℕ

-- an item before repeats
abbrev pub repeat_before : ℕ → List Repeat → List Repeat
repeat_before n [] = record { item = n; count = 1 } ∷ []
repeat_before n (r ∷ rs) =
    if n == r.item then record r { count = r.count + 1 } ∷ rs else record { item = n; count = 1 } ∷ r ∷ rs

-- the longest runs of equal items
abbrev pub repeats_of : List ℕ → List Repeat
repeats_of [] = []
repeats_of (n ∷ items) = repeat_before n (repeats_of items)

abbrev pub count_text : ℕ → List ℕ
count_text count = if count == 1 then [] else codes "*" ++ decimal count

abbrev pub repeat_text : Repeat → List ℕ
repeat_text r = codes " " ++ decimal r.item ++ count_text r.count

-- the line of a schedule
unfoldable pub by_line : List ℕ → List ℕ
by_line items = codes "by" ++ flat_map repeat_text (repeats_of items) ++ newline
