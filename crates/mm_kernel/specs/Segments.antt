-- Kept segments, and what an image says of them: which pointers lead into them, and which words never change.
use Rattle.std.specs.Prelude.{ℕ, ◌/◌, ◌^◌, Bool, true, false, not, ◌&&◌, ◌||◌, ◌==◌, nat_le, List, [], ◌∷◌, ◌++◌}
use Rattle.std.specs.List.{filter, flat_map, list_any}
use Rattle.mm_word.specs.declared.perm.Perm.{Perm, TheVariants.{Ro, Rw, Xu, Xp, Eu, Ep, Key}}
use Rattle.mm_word.specs.{declared.word.{Word.{Word, TheVariants.{Int, Ptr}}, Cell.Cell}, Perm.can_store}
use Rattle.mm_word.specs.Pointer.{Pointer, in_segment, holds_word}
use Rattle.mm_model.specs.{Slot.Slot, Image.Image, Turn.is_running}

-- 1. Segments.

-- a segment: its base and the logarithm of its length
abbrev pub Segment : Type 0
Segment = ℕ × ℕ

-- an address lies in a segment
abbrev pub lies_in : ℕ → Segment → Bool
lies_in a seg = a / 2 ^ seg.1 == seg.0 / 2 ^ seg.1

-- a word is kept if it lies in a kept segment
unfoldable pub is_kept : List Segment → ℕ → Bool
is_kept kept w = list_any (lies_in w) kept

-- a pointer's segment and another have an address in common: one of them has the base or the address of the other
abbrev pub meets_segment : Pointer → Segment → Bool
meets_segment p seg = in_segment p seg.0 || lies_in p.addr seg

-- a pointer meets the kept segments
unfoldable pub meets : List Segment → Pointer → Bool
meets kept p = list_any (meets_segment p) kept

-- a pointer's segment lies in another
abbrev pub lies_inside : Pointer → Segment → Bool
lies_inside p seg = nat_le p.log seg.1 && lies_in p.addr seg

-- a pointer is inside: its segment lies in a kept one
unfoldable pub is_inside : List Segment → Pointer → Bool
is_inside kept p = list_any (lies_inside p) kept

-- 2. Live pointers, and words that never change.

abbrev pub pointers_in : Word → List Pointer
pointers_in (Int bits) = []
pointers_in (Ptr p) = p ∷ []

-- the pointers that a slot has: that by which it runs, and those in its registers
abbrev pub slot_pointers : Slot → List Pointer
slot_pointers s = s.ip ∷ flat_map pointers_in s.regs

abbrev pub page_pointers : ℕ × List Cell → List Pointer
page_pointers page = flat_map (λ (c : Cell). pointers_in c.word) page.1

abbrev pub running_slots : Image → List Slot
running_slots i = filter (λ s. is_running s.state) i.slots

-- the live pointers: those that a running slot has, and those in cells
unfoldable pub live_pointers : Image → List Pointer
live_pointers i = flat_map slot_pointers (running_slots i) ++ flat_map page_pointers i.memory.pages

-- a pointer stores and covers a word
abbrev pub may_write : ℕ → Pointer → Bool
may_write w p = can_store p.perm && holds_word p w

-- a word is fixed if no live pointer that stores covers it
unfoldable pub is_fixed : Image → ℕ → Bool
is_fixed i w = not (list_any (may_write w) (live_pointers i))

-- code by this permission is privileged, or can make privileged code
abbrev pub runs_privileged : Perm → Bool
runs_privileged Xp = true
runs_privileged Ep = true
runs_privileged _ = false

-- the image has no live pointer to privileged code
unfoldable pub is_user : Image → Bool
is_user i = not (list_any (λ (p : Pointer). runs_privileged p.perm) (live_pointers i))

-- 3. Open words, and doors.

-- A pointer that a caller may hold: no key and no enter pointer loads, stores or runs code in the middle, and what does
-- must not meet the kept segments.
abbrev pub is_open_as : Perm → (meets : Bool) → Bool
is_open_as Key meets = true
is_open_as Eu meets = true
is_open_as Ro meets = not meets
is_open_as Rw meets = not meets
is_open_as Xu meets = not meets
is_open_as _ meets = false

abbrev pub is_open_pointer : List Segment → Pointer → Bool
is_open_pointer kept p = is_open_as p.perm (meets kept p)

-- a word that a caller may hold
unfoldable pub is_open : List Segment → Word → Bool
is_open kept (Int bits) = true
is_open kept (Ptr p) = is_open_pointer kept p

abbrev pub is_enter : Perm → Bool
is_enter Eu = true
is_enter _ = false

-- a door: an enter pointer that meets the kept segments
unfoldable pub is_door : List Segment → Pointer → Bool
is_door kept p = is_enter p.perm && meets kept p
