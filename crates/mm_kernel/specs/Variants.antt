-- Variants of an image: the same kernel, with any callers.
use Rattle.std.specs.Prelude.{◌≡◌, ℕ, Bool, true, false, ◌||◌, if◌then◌else◌, List, map, Some}
use Rattle.std.specs.List.{AllByRecursion, AllZip}
use Rattle.mm_word.specs.declared.{perm.Perm.TheVariants.Xu, word.{Word.{Word, TheVariants.{Int, Ptr}}, Cell.Cell}}
use Rattle.mm_model.specs.{Memory.cell_at, Slot.Slot, Image.Image, Fits.identity_of, Turn.is_running}
use Rattle.mm_kernel.specs.{Segments.{Segment, is_kept, is_fixed, meets, is_open, is_door}, Threads.is_kernel_slot}
use Rattle.mm_kernel.specs.{Facts.Fact.HasDoor, Derived.Derived}

-- a door among words that callers share can be entered
abbrev pub EntersByDoor : Image → List Segment → Word → Type 0
EntersByDoor i kept (Int bits) = Unit {0}
EntersByDoor i kept (Ptr p) = is_door kept p ≡ true → Derived i kept (HasDoor p)

-- a word that callers may share: it is open, and a door in it can be entered
pub record IsShared (i : Image) (kept : List Segment) (w : Word) : Type 0 where
  pub open_word : is_open kept w ≡ true
  pub door : EntersByDoor i kept w

-- a caller: it runs, and is no slot of the kernel
abbrev pub is_caller : List Segment → Slot → Bool
is_caller kept s = if is_kernel_slot kept s then false else is_running s.state

-- a caller with any code and any words that callers may share
pub record IsAnyCaller (i : Image) (kept : List Segment) (s : Slot) : Type 0 where
  pub executable : s.ip.perm ≡ Xu
  pub outside : meets kept s.ip ≡ false
  pub registers : AllByRecursion (IsShared i kept) s.regs

-- a slot of a variant in place of a slot of the image: another caller for a caller, and else the same slot
pub record IsVariantSlot (i : Image) (kept : List Segment) (s t : Slot) : Type 0 where
  pub identity : identity_of t ≡ identity_of s
  pub state : t.state ≡ s.state
  pub caller : is_caller kept s ≡ true → IsAnyCaller i kept t
  pub other : is_caller kept s ≡ false → t ≡ s

-- a word that every variant has as the image has it
abbrev pub stays : Image → List Segment → ℕ → Bool
stays i kept w = is_kept kept w || is_fixed i w

-- j is a variant of the image i
pub record Variant (i : Image) (kept : List Segment) (j : Image) : Type 0 where
  pub version : j.version ≡ i.version
  pub mode : j.split ≡ i.split
  pub frames : j.memory.frames ≡ i.memory.frames
  pub pages : map (λ (e : ℕ × List Cell). e.0) j.memory.pages ≡ map (λ (e : ℕ × List Cell). e.0) i.memory.pages
  pub slots : AllZip (IsVariantSlot i kept) i.slots j.slots
  pub same : (w : ℕ) (c : Cell) → cell_at i.memory w ≡ Some c → stays i kept w ≡ true → cell_at j.memory w ≡ Some c
  pub others : (w : ℕ) (c : Cell) → cell_at j.memory w ≡ Some c → stays i kept w ≡ false → IsShared i kept c.word
  -- no pointer of the variant stores to a word that is fixed in the image
  pub fixed : (w : ℕ) (c : Cell) → cell_at i.memory w ≡ Some c → is_fixed i w ≡ true → is_fixed j w ≡ true
