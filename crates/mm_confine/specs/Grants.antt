-- What groups are granted, and slots of the kernel, where the kernel's code is known.
use Rattle.std.specs.Prelude.{◌≡◌, ◌⊎◌, ℕ, true, false, List, Contains, Some}
use Rattle.mm_word.specs.declared.{perm.Perm.TheVariants.Eu, word.{Word.TheVariants.Ptr, Cell.Cell}}
use Rattle.mm_word.specs.Pointer.{Pointer, IsBelow, enter_result}
use Rattle.mm_model.specs.{Memory.cell_at, Slot.Slot, Image.Image, Reach.{LoadsAt, StoresAt}}
use Rattle.mm_kernel.specs.{Segments.{Segment, is_kept, is_door}, Threads.is_kernel, Variants.is_caller}
use Rattle.mm_kernel.specs.declared.thread.{Origin.{Origin, TheVariants.{Door, Slot as OfSlot}}, Thread.Thread}
use Rattle.mm_confine.specs.{declared.party.Party.{Party, TheVariants.{Group, KernelSlot}}, Taken.TakenUp}
use Rattle.mm_confine.specs.Conduct.{HasExactly, IsPlain, GoesOn, LetsOut, PassesInside, StoresOut, GivesServed}
use Rattle.mm_confine.specs.Conduct.{SeesServed}

-- 1. Parties.

-- a slot is of a party: of its group's callers, or by itself if it is one of the kernel
pub data IsOf (i : Image) (kept : List Segment) (s : Slot) : Party → Type 0 where
  with_group : IsOf i kept s (Group s.group)
  by_itself : is_kernel i kept s.number ≡ true → IsOf i kept s (KernelSlot s.number)

-- a slot of the kernel serves a slot of a party
pub record Serves (i : Image) (kept : List Segment) (n : ℕ) (x : Party) : Type 0 where
  pub of_kernel : is_kernel i kept n ≡ true
  pub served : Slot
  pub one : Contains i.slots served
  pub handled : served.handler ≡ Some n
  pub party : IsOf i kept served x

-- a slot of one of two groups has its handler in the other, and the handler is no slot of the kernel
pub record AreServed (i : Image) (kept : List Segment) (g h : ℕ) : Type 0 where
  pub served : Slot
  pub server : Slot
  pub one : Contains i.slots served
  pub other : Contains i.slots server
  pub handled : served.handler ≡ Some server.number
  pub caller : is_kernel i kept server.number ≡ false
  pub groups : ((served.group ≡ g) × (server.group ≡ h)) ⊎ ((served.group ≡ h) × (server.group ≡ g))

-- What a party passes on by a store: a group whatever it holds, a slot of the kernel what its code stores.
abbrev pub PassesOn : Image → List Segment → Party → Pointer → Type 0
PassesOn i kept (Group g) q = Unit {0}
PassesOn i kept (KernelSlot n) q = StoresOut i kept n q

-- 2. The rules.

-- what is said of parties: that one holds a pointer, and that one runs the kernel's threads of an origin
pub data Line : Type 0 where
  Holds : (party : Party) (pointer : Pointer) → Line
  Runs : (party : Party) (origin : Origin) → Line

pub data Granted (i : Image) (kept : List Segment) : Line → Type 0 where
  -- a slot of the kernel runs its own threads
  runs_itself : (n : ℕ) → is_kernel i kept n ≡ true → Granted i kept (Runs (KernelSlot n) (OfSlot n))
  -- a group runs the threads from a door that it holds
  runs_through : (g : ℕ) (d : Pointer) → Granted i kept (Holds (Group g) d) → is_door kept d ≡ true
      → Granted i kept (Runs (Group g) (Door d))
  -- a caller of the group has the pointer in a register, or runs by it
  in_register : (s : Slot) (q : Pointer) → Contains i.slots s → is_caller kept s ≡ true → Contains s.regs (Ptr q)
      → Granted i kept (Holds (Group s.group) q)
  runs_by : (s : Slot) → Contains i.slots s → is_caller kept s ≡ true → Granted i kept (Holds (Group s.group) s.ip)
  -- a cell of the image that the party can load holds the pointer, and is not kept
  in_cell : (x : Party) (p q : Pointer) (w : ℕ) (c : Cell) → Granted i kept (Holds x p) → LoadsAt p w
      → is_kept kept w ≡ false → cell_at i.memory w ≡ Some c → c.word ≡ Ptr q → Granted i kept (Holds x q)
  -- the pointer is below one that the party holds
  below : (x : Party) (p q : Pointer) → Granted i kept (Holds x p) → IsBelow q p → Granted i kept (Holds x q)
  -- a party that holds the pointer, and passes it on by a store, can store where this one can load
  passed : (y x : Party) (q p r : Pointer) (w : ℕ) → Granted i kept (Holds y q) → PassesOn i kept y q
      → Granted i kept (Holds y p) → StoresAt p w → Granted i kept (Holds x r) → LoadsAt r w
      → Granted i kept (Holds x q)
  -- the pointer is what an enter pointer of the party that is no door becomes in the jump
  entered : (x : Party) (p q : Pointer) → Granted i kept (Holds x p) → p.perm ≡ Eu → is_door kept p ≡ false
      → enter_result p ≡ Some q → Granted i kept (Holds x q)
  -- a caller that serves the group, or that the group serves, is of a group that holds the pointer
  served : (h g : ℕ) (q : Pointer) → Granted i kept (Holds (Group h) q) → AreServed i kept g h
      → Granted i kept (Holds (Group g) q)
  -- a thread that the party runs has the pointer, which is no door
  has_exactly : (x : Party) (from : Origin) (q : Pointer) (t : Thread) → Granted i kept (Runs x from)
      → TakenUp i kept t → t.origin ≡ from → HasExactly t q → IsPlain kept q → Granted i kept (Holds x q)
  -- a thread that the party runs lets the door out
  lets_out : (x : Party) (from : Origin) (d : Pointer) → Granted i kept (Runs x from) → is_door kept d ≡ true
      → LetsOut i kept from d → Granted i kept (Holds x d)
  -- a party that holds the pointer runs a thread that stores it to a kept word, and this one runs a thread that loads it
  kept_for : (y x : Party) (from to : Origin) (q : Pointer) → Granted i kept (Holds y q) → Granted i kept (Runs y from)
      → PassesInside i kept from to → Granted i kept (Runs x to) → Granted i kept (Holds x q)
  -- a slot of the kernel looks at what it serves, and one of these holds the pointer
  seen : (n : ℕ) (y : Party) (q : Pointer) → Granted i kept (Holds y q) → Serves i kept n y → SeesServed i kept n
      → Granted i kept (Holds (KernelSlot n) q)
  -- a slot of the kernel gives the pointer to what it serves
  given : (n : ℕ) (x : Party) (q : Pointer) → Granted i kept (Holds (KernelSlot n) q) → Serves i kept n x
      → GivesServed i kept n q → Granted i kept (Holds x q)
  -- a slot of the kernel goes on as a caller of its group
  freed : (s : Slot) (q : Pointer) (t : Thread) → Contains i.slots s
      → Granted i kept (Holds (KernelSlot s.number) q) → GoesOn i kept (OfSlot s.number) t
      → Granted i kept (Holds (Group s.group) q)
