-- The entries of the translation buffer, the last used first.
use Rattle.std.specs.Prelude.{ℕ, ◌==◌, ◌≤◌, if◌then◌else◌, List, [], ◌∷◌, map, take, length, Option, None, Some}
use Rattle.mm_vmem.specs.{declared.tlb.Entry.Entry, Stands.IsDistinct}

-- the pages of these entries
abbrev pub pages_in : List Entry → List ℕ
pages_in entries = map (λ e. e.page) entries

-- the frame of a page, if the buffer has it
abbrev pub frame_in : ℕ → List Entry → Option ℕ
frame_in page [] = None
frame_in page (e ∷ entries) = if e.page == page then Some e.frame else frame_in page entries

abbrev pub entries_without : ℕ → List Entry → List Entry
entries_without page [] = []
entries_without page (e ∷ entries) = if page == e.page then entries_without page entries
    else e ∷ entries_without page entries

-- the buffer after a look-up of this entry's page: its entry is the first, and if there were 16 others, the last of
-- them is gone
abbrev pub after_look_up : Entry → List Entry → List Entry
after_look_up e entries = take 16 (e ∷ entries_without e.page entries)

-- at most 16 entries, each of another page
pub record AreEntries (entries : List Entry) : Type 0 where
  pub distinct : IsDistinct (pages_in entries)
  pub few : length entries ≤ 16
