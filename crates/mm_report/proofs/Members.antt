-- The slots of a group among all slots, and the groups that have a slot among all groups.
use Rattle.std.proofs.Common.{◌≡◌, ℕ, ◌+◌, ◌<◌, ◌==◌, Bool, true, false, ◌||◌, if◌then◌else◌, List, [], ◌∷◌}
use Rattle.std.proofs.Common.{◌++◌, length, map, take, get_or, Some, slice_get, refl, ap, ◌∙◌}
use Rattle.std.proofs.lemmas.{List.Folds.list_any_more, Option.get_or_from_slice_get}
use Rattle.std.specs.List.{flat_map, filter, list_any}
use Rattle.mm_model.specs.{State.{ThreadRow, Core}, Fits.slots_of, Lines.slot_lines, Report.is_of}
use Rattle.mm_report.specs.Groups.{member_text}

-- the texts of the items that pass a test, item by item
pub passed_texts : {X : Type 0} (p : X → Bool) (line : X → List ℕ) (xs : List X) → flat_map (λ x. if p x then line x else []) xs ≡ flat_map line (filter p xs)
passed_texts p line [] = refl
passed_texts {X = X} p line (x ∷ xs) = by (p x) (passed_texts p line xs)
  where
    by : (b : Bool) → flat_map (λ x. if p x then line x else []) xs ≡ flat_map line (filter p xs)
        → (if b then line x else []) ++ flat_map (λ x. if p x then line x else []) xs ≡ flat_map line (if b then x ∷ filter p xs else filter p xs)
    by true later = ap (λ (text : List ℕ). line x ++ text) later
    by false later = later

-- the texts of rows are those of their slots
row_texts : (g : ℕ) (rows : List ThreadRow) → flat_map (member_text g) (map (λ row. row.slot) rows) ≡ flat_map (λ row. if is_of g row then slot_lines row.slot else []) rows
row_texts g [] = refl
row_texts g (row ∷ rows) = ap (λ (text : List ℕ). member_text g row.slot ++ text) (row_texts g rows)

pub member_texts : (g : ℕ) (core : Core) → flat_map (member_text g) (slots_of core) ≡ flat_map (λ row. slot_lines row.slot) (filter (is_of g) core.rows)
member_texts g core = row_texts g core.rows ∙ passed_texts (is_of g) (λ row. slot_lines row.slot) core.rows

any_row : (g : ℕ) (rows : List ThreadRow) → list_any (λ s. s.group == g) (map (λ row. row.slot) rows) ≡ list_any (is_of g) rows
any_row g [] = refl
any_row g (row ∷ rows) = ap (λ (b : Bool). is_of g row || b) (any_row g rows)

-- a slot of the group is one of the slots exactly where it is one of the rows
pub any_slot : (g : ℕ) (core : Core) → list_any (λ s. s.group == g) (slots_of core) ≡ list_any (is_of g) core.rows
any_slot g core = any_row g core.rows

-- one item more that does not pass
pub none_more : {X : Type 0} (p : X → Bool) (xs : List X) (i : ℕ) (x : X) → i < length xs → slice_get xs i ≡ Some x → list_any p (take i xs) ≡ false → p x ≡ false
    → list_any p (take (i + 1) xs) ≡ false
none_more p xs i x inside here before fails =
    list_any_more p xs i x inside
    ∙ ap (λ (b : Bool). b || p (get_or xs i x)) before
    ∙ ap p (get_or_from_slice_get xs i x x here)
    ∙ fails
