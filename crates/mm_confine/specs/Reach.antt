-- What groups reach with a kernel that keeps its segments, and what stands behind their doors.
use Rattle.std.specs.Prelude.{◌≡◌, ℕ, true, false, List, Contains, Some}
use Rattle.mm_word.specs.{declared.perm.Kind.{Kind, TheVariants.{Fetch, Load, LoadSet, Store}}, Perm.allows}
use Rattle.mm_word.specs.{declared.word.Cell.Cell, Access.AccessValue, Pointer.{Pointer, Covers}}
use Rattle.mm_model.specs.{Memory.cell_at, Slot.Slot, Image.Image}
use Rattle.mm_kernel.specs.{Segments.{Segment, is_kept, is_door}, Threads.is_kernel_slot}
use Rattle.mm_kernel.specs.declared.thread.Origin.{Origin, TheVariants.{Door, Slot as OfSlot}}
use Rattle.mm_kernel.specs.Uses.{IsUsed, Reads, Writes}
use Rattle.mm_confine.specs.{declared.party.Party.TheVariants.{Group, KernelSlot}, Grants.{Granted, Line.Holds}}

-- 1. Pointers.

-- the group reaches the pointer: its callers hold it, or one of its slots that are of the kernel does
pub data Reaches (i : Image) (kept : List Segment) (g : ℕ) (q : Pointer) : Type 0 where
  by_callers : Granted i kept (Holds (Group g) q) → Reaches i kept g q
  by_slot : (s : Slot) → Contains i.slots s → s.group ≡ g → Granted i kept (Holds (KernelSlot s.number) q)
      → Reaches i kept g q

-- 2. Kept words.

-- the origin is named for the group: a door that it holds, or a slot of it that is one of the kernel
pub data IsNamed (i : Image) (kept : List Segment) (g : ℕ) : Origin → Type 0 where
  door : (d : Pointer) → is_door kept d ≡ true → Granted i kept (Holds (Group g) d) → IsNamed i kept g (Door d)
  slot : (s : Slot) → Contains i.slots s → s.group ≡ g → is_kernel_slot kept s ≡ true → IsNamed i kept g (OfSlot s.number)

-- threads of an origin use the kept word in the way of an access of this kind
abbrev pub UsesBy : Kind → Image → List Segment → Origin → ℕ → Type 0
UsesBy Fetch i kept from w = IsUsed Reads i kept from w
UsesBy Load i kept from w = IsUsed Reads i kept from w
UsesBy LoadSet i kept from w = IsUsed Reads i kept from w × IsUsed Writes i kept from w
UsesBy Store i kept from w = IsUsed Writes i kept from w

pub record IsBehind (i : Image) (kept : List Segment) (g : ℕ) (a : AccessValue) : Type 0 where
  pub origin : Origin
  pub named : IsNamed i kept g origin
  pub used : UsesBy a.kind i kept origin a.addr

-- the group reaches a pointer that covers the word of an access and has the rights that its kind needs
pub record IsReached (i : Image) (kept : List Segment) (g : ℕ) (a : AccessValue) : Type 0 where
  pub by : Pointer
  pub reached : Reaches i kept g by
  pub covers : Covers by a.addr
  pub right : allows by.perm a.kind ≡ true

-- An access of the group on a word that is not kept is through what it reaches. One on a kept word of the image's pages
-- is the kernel's own, from a door that the group holds or in a slot of it that is one of the kernel.
pub record IsConfined (i : Image) (kept : List Segment) (g : ℕ) (a : AccessValue) : Type 0 where
  pub others : is_kept kept a.addr ≡ false → IsReached i kept g a
  pub kept_words : is_kept kept a.addr ≡ true → (c : Cell) → cell_at i.memory a.addr ≡ Some c → IsBehind i kept g a
