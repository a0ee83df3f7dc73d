-- Marks that are sound, and to which no rule adds.
use Rattle.std.specs.Prelude.{◌≡◌, ℕ, ◌<◌, true, false, List, length, Contains, Some}
use Rattle.mm_word.specs.declared.{perm.Perm.TheVariants.Eu, word.{Word.TheVariants.Ptr, Cell.Cell}}
use Rattle.mm_word.specs.Pointer.{Pointer, IsBelow, enter_result}
use Rattle.mm_model.specs.{Memory.cell_at, Slot.Slot, Image.Image, Reach.{LoadsAt, StoresAt}}
use Rattle.mm_graph.specs.{declared.canonical_ptr.CanonicalPtr.CanonicalPtr, Marked.node_pointer, Summary.IsPowerless}
use Rattle.mm_kernel.specs.Segments.{Segment, is_kept, is_door}
use Rattle.mm_kernel.specs.declared.{form.Form.{TheVariants.{Pointer as Exactly}}, thread.Thread.Thread}
use Rattle.mm_kernel.specs.declared.thread.Origin.{Origin, TheVariants.{Door, Slot as OfSlot}}
use Rattle.mm_kernel.specs.{Threads.is_kernel, Variants.is_caller}
use Rattle.mm_confine.specs.declared.party.Party.{Party, TheVariants.{Group, KernelSlot}}
use Rattle.mm_confine.specs.{Grants.{Granted, Line.Holds, AreServed, Serves}, Conduct.{GoesOn, PassesInside, SeesServed}}
use Rattle.mm_hold.specs.declared.marks.Marks.{Marks}
use Rattle.mm_hold.specs.{Marks.Held, Conducts.{HasOrLets, Sends, Gives, SomeCarries}}

-- 1. What marks say.

-- a party is marked at a node whose pointer is at or above this one
pub record Above (keys : List CanonicalPtr) (m : Marks) (x : Party) (q : Pointer) : Type 0 where
  pub node : ℕ
  pub small : node < length keys
  pub held : Held m x node
  pub below : IsBelow q (node_pointer keys node)

-- by the marks a party holds a pointer: it is no door and permits nothing, or is at or below one of a node
pub data Covered (kept : List Segment) (keys : List CanonicalPtr) (m : Marks) (x : Party) (q : Pointer) : Type 0 where
  powerless : is_door kept q ≡ false → IsPowerless q → Covered kept keys m x q
  above : Above keys m x q → Covered kept keys m x q

-- by the marks a party runs the threads of an origin
pub data Running (i : Image) (kept : List Segment) (keys : List CanonicalPtr) (m : Marks) : Party → Origin → Type 0 where
  itself : (n : ℕ) → is_kernel i kept n ≡ true → Running i kept keys m (KernelSlot n) (OfSlot n)
  through : (g : ℕ) (d : Pointer) → is_door kept d ≡ true → Above keys m (Group g) d
      → Running i kept keys m (Group g) (Door d)

-- one party is marked at a node that stores where the other one is marked at a node that loads
pub record StoresFor (keys : List CanonicalPtr) (m : Marks) (y x : Party) : Type 0 where
  pub stored : ℕ
  pub loaded : ℕ
  pub small : (stored < length keys) × (loaded < length keys)
  pub held : Held m y stored × Held m x loaded
  pub word : ℕ
  pub stores : StoresAt (node_pointer keys stored) word
  pub loads : LoadsAt (node_pointer keys loaded) word

-- 2. Who passes on whatever it holds.

-- a group by each store, a slot of the kernel by those of a form that carries
abbrev pub CarriesOut : Image → List Segment → Party → Type 0
CarriesOut i kept (Group g) = Unit {0}
CarriesOut i kept (KernelSlot n) = SomeCarries (Sends i kept n)

pub data PassesAll (i : Image) (kept : List Segment) (keys : List CanonicalPtr) (m : Marks) : Party → Party → Type 0 where
  by_store : {y x : Party} → CarriesOut i kept y → StoresFor keys m y x → PassesAll i kept keys m y x
  by_service : (h g : ℕ) → AreServed i kept g h → PassesAll i kept keys m (Group h) (Group g)
  by_word : {y x : Party} (from to : Origin) → Running i kept keys m y from → PassesInside i kept from to
      → Running i kept keys m x to → PassesAll i kept keys m y x
  by_look : {y : Party} (n : ℕ) → Serves i kept n y → SeesServed i kept n → PassesAll i kept keys m y (KernelSlot n)
  by_gift : {x : Party} (n : ℕ) → Serves i kept n x → SomeCarries (Gives i kept n)
      → PassesAll i kept keys m (KernelSlot n) x
  by_leave : (s : Slot) → Contains i.slots s → ((t : Thread) × GoesOn i kept (OfSlot s.number) t)
      → PassesAll i kept keys m (KernelSlot s.number) (Group s.group)

-- 3. Closure.

pub record IsClosed (i : Image) (kept : List Segment) (keys : List CanonicalPtr) (m : Marks) : Type 0 where
  pub registers : (s : Slot) (q : Pointer) → Contains i.slots s → is_caller kept s ≡ true → Contains s.regs (Ptr q)
      → Covered kept keys m (Group s.group) q
  pub runs : (s : Slot) → Contains i.slots s → is_caller kept s ≡ true → Covered kept keys m (Group s.group) s.ip
  pub cells : (x : Party) (k w : ℕ) (c : Cell) (q : Pointer) → k < length keys → Held m x k
      → LoadsAt (node_pointer keys k) w → is_kept kept w ≡ false → cell_at i.memory w ≡ Some c → c.word ≡ Ptr q
      → Covered kept keys m x q
  pub entries : (x : Party) (k : ℕ) (q : Pointer) → k < length keys → Held m x k → (node_pointer keys k).perm ≡ Eu
      → is_door kept (node_pointer keys k) ≡ false → enter_result (node_pointer keys k) ≡ Some q
      → Covered kept keys m x q
  pub has : (x : Party) (from : Origin) (q : Pointer) → Running i kept keys m x from → HasOrLets i kept from q
      → Covered kept keys m x q
  pub passes : (y x : Party) (k : ℕ) → PassesAll i kept keys m y x → Held m y k → Held m x k
  pub sends : (n : ℕ) (q : Pointer) (x : Party) → Sends i kept n (Exactly q) → StoresFor keys m (KernelSlot n) x
      → Covered kept keys m (KernelSlot n) q → Covered kept keys m x q
  pub gives : (n : ℕ) (q : Pointer) (x : Party) → Gives i kept n (Exactly q) → Serves i kept n x
      → Covered kept keys m (KernelSlot n) q → Covered kept keys m x q

-- each mark is of a pointer that the party is granted
abbrev pub IsSound : Image → List Segment → List CanonicalPtr → Marks → Type 0
IsSound i kept keys m = (x : Party) (k : ℕ) → k < length keys → Held m x k → Granted i kept (Holds x (node_pointer keys k))
