-- The pointers of an image that parties may come to hold, and their keys.
use Rattle.std.specs.Prelude.{ℕ, ◌+◌, ◌*◌, if◌then◌else◌, List, [], ◌∷◌, ◌++◌, Option, Some, None}
use Rattle.std.specs.List.{flat_map}
use Rattle.mm_word.specs.declared.word.{Word.{Word, TheVariants.{Int, Ptr}}, Cell.Cell}
use Rattle.mm_word.specs.Pointer.{Pointer}
use Rattle.mm_model.specs.{Slot.Slot, Image.Image}
use Rattle.mm_graph.specs.declared.{canonical_ptr.CanonicalPtr.CanonicalPtr, found.Found.Found, seed.Seed.Seed}
use Rattle.mm_graph.specs.{Key.{key_of, standing_key}, Found.{found_at, seed_at}}
use Rattle.mm_kernel.specs.Segments.{Segment, is_kept, is_fixed, is_door}
use Rattle.mm_kernel.specs.{declared.form.Form.Form, Derived.first_form, Variants.is_caller}

-- 1. Keys.

-- the key of the pointer that stands for all that can be made of this one; a door stands for itself
abbrev pub held_key : List Segment → Pointer → Option CanonicalPtr
held_key kept p = if is_door kept p then Some (key_of p) else standing_key p

abbrev pub held_word : List Segment → Word → Option CanonicalPtr
held_word kept (Int n) = None
held_word kept (Ptr p) = held_key kept p

-- 2. Cells.

-- what each cell gives, from an address on
abbrev pub cells_with : {A : Type 0} → (ℕ → Cell → List A) → ℕ → List Cell → List A
cells_with f w [] = []
cells_with f w (c ∷ cells) = f w c ++ cells_with f (w + 8) cells

abbrev pub page_with : {A : Type 0} → (ℕ → Cell → List A) → ℕ × List Cell → List A
page_with f page = cells_with f (page.0 * 4096) page.1

abbrev pub pages_with : {A : Type 0} → (ℕ → Cell → List A) → List (ℕ × List Cell) → List A
pages_with f pages = flat_map (page_with f) pages

-- the pointer of a cell that is not kept
abbrev pub cell_found : List Segment → ℕ → Cell → List Found
cell_found kept w c = if is_kept kept w then [] else found_at w (held_word kept c.word)

-- the form that a kept cell has from the start
abbrev pub cell_first : Image → List Segment → ℕ → Cell → List (ℕ × Form)
cell_first i kept w c = if is_kept kept w then (w, first_form (is_fixed i w) c.word) ∷ [] else []

-- 3. Slots.

abbrev pub word_seed : List Segment → ℕ → Word → List Seed
word_seed kept g w = seed_at g (held_word kept w)

-- the pointers of a slot, if it is a caller
abbrev pub caller_seeds : List Segment → Slot → List Seed
caller_seeds kept s = if is_caller kept s then flat_map (word_seed kept s.group) (Ptr s.ip ∷ s.regs) else []
