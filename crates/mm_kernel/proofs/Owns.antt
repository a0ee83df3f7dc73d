-- Who holds which pointers, as the laws' one induction asks for it: what is to hold of any answer.
use Rattle.std.specs.Prelude.{◌≡◌, ℕ, ◌<◌, ◌⊎◌, true, false, List, Contains, Some}
use Rattle.std.specs.List.{AllByRecursion}
use Rattle.mm_word.specs.declared.perm.Perm.TheVariants.{Eu, Key}
use Rattle.mm_word.specs.{declared.word.{Word.{Word, TheVariants.{Int, Ptr}}, Cell.Cell}, Pointer.{Pointer, IsBelow, enter_result}}
use Rattle.mm_isa.specs.declared.instr.How.{How}
use Rattle.mm_model.specs.{Memory.cell_at, Slot.Slot, Image.Image, Reach.{LoadsAt, StoresAt}}
use Rattle.mm_kernel.specs.Segments.{Segment, is_kept, lies_in, is_door, is_open_pointer, running_slots}
use Rattle.mm_kernel.specs.declared.{fact.{Leak.Leak, Handling.Handling}, form.Form.{Form, TheVariants.Pointer as Exactly}}
use Rattle.mm_kernel.specs.declared.thread.{Origin.{Origin, TheVariants.{Door, Slot as OfSlot}}, Thread.Thread}
use Rattle.mm_kernel.specs.declared.outcome.Outcome.{Outcome}
use Rattle.mm_kernel.specs.Threads.{form_in, with_form, is_free, is_kernel, is_kernel_slot, handler_of, own_thread}
use Rattle.mm_kernel.specs.Threads.{thread_through}
use Rattle.mm_kernel.specs.Facts.{take_up, Fact.{HasThread, HasForm, HasDoor, HasEvent, HasFaulted}}
use Rattle.mm_kernel.specs.{Forms.carries, Turns.{outcomes, with_event}, Derived.{Derived, resumed}}
use Rattle.mm_kernel.specs.declared.outcome.Outcome.TheVariants as outcome
use Rattle.mm_kernel.specs.declared.fact.Leak.TheVariants as leak

-- 1. Holders, and what threads do.

-- the callers of a group, or a slot of the kernel by itself
pub data Who : Type 0 where
  Callers : (group : ℕ) → Who
  Alone : (slot : ℕ) → Who

-- whose thread runs: anyone's, or one of the kernel's
pub data Mode : Type 0 where
  AsAnyone : Mode
  AsKernel : Mode

abbrev pub Up : Image → List Segment → Thread → Type 0
Up i kept t = AllByRecursion (Derived i kept) (take_up i kept t)

-- a derived thread of an origin has an outcome
pub record Comes (i : Image) (kept : List Segment) (from : Origin) (o : Outcome) : Type 0 where
  pub thread : Thread
  pub derived : Derived i kept (HasThread thread)
  pub origin : thread.origin ≡ from
  pub comes : Contains (outcomes i kept thread) o

-- a thread of an origin goes on as a caller
pub data GoesOn (i : Image) (kept : List Segment) (Taken : Thread → Type 0) (from : Origin) (t : Thread) : Type 0 where
  comes_free : Taken t → t.origin ≡ from → is_free kept t ≡ true → GoesOn i kept Taken from t
  leaves : Comes i kept from (outcome.Leaves t) → GoesOn i kept Taken from t

-- who runs the threads of an origin
pub data Runs (i : Image) (kept : List Segment) (Own : Who → Pointer → Type 0) : Who → Origin → Type 0 where
  itself : (n : ℕ) → is_kernel i kept n ≡ true → Runs i kept Own (Alone n) (OfSlot n)
  through : (g : ℕ) (d : Pointer) → Own (Callers g) d → is_door kept d ≡ true → Runs i kept Own (Callers g) (Door d)

-- a slot of the image is of a holder
pub data IsOf (i : Image) (kept : List Segment) (s : Slot) : Who → Type 0 where
  with_group : IsOf i kept s (Callers s.group)
  by_itself : is_kernel i kept s.number ≡ true → IsOf i kept s (Alone s.number)

-- a slot of a holder has its handler in a slot of the kernel
pub record ServedBy (i : Image) (kept : List Segment) (n : ℕ) (x : Who) : Type 0 where
  pub of_kernel : is_kernel i kept n ≡ true
  pub served : Slot
  pub one : Contains i.slots served
  pub handled : served.handler ≡ Some n
  pub party : IsOf i kept served x

-- a form hands on a pointer
abbrev pub HandsOn : Pointer → Form → Type 0
HandsOn q f = (f ≡ Exactly q) ⊎ (carries f ≡ true)

abbrev pub IsPlain : List Segment → Pointer → Type 0
IsPlain kept q = (is_open_pointer kept q ≡ true) × (is_door kept q ≡ false)

-- 2. The rules.

pub record Rules (i : Image) (kept : List Segment) (Own : Who → Pointer → Type 0) (Taken : Thread → Type 0) : Type 0 where
  -- threads that are taken up
  pub up : (t : Thread) → Taken t → Up i kept t
  pub begins : (s : Slot) → Contains (running_slots i) s → Taken (own_thread i kept s)
  pub enters : (door ip : Pointer) (s : Slot) → Derived i kept (HasDoor door) → enter_result door ≡ Some ip
      → Contains (running_slots i) s → Taken (thread_through door ip (handler_of i kept s.handler))
  pub goes : (t next : Thread) → Derived i kept (HasThread t) → Contains (outcomes i kept t) (outcome.Goes next) → Taken next
  pub loads : (t next : Thread) (part : Segment) (reg w : ℕ) (f : Form) → Derived i kept (HasThread t)
      → Contains (outcomes i kept t) (outcome.Loads part reg next) → Derived i kept (HasForm w f)
      → lies_in w part ≡ true → Taken (with_form next reg f)
  pub takes : (t next : Thread) (h reg : ℕ) (e : Handling) → Derived i kept (HasThread t) → t.origin ≡ OfSlot h
      → Contains (outcomes i kept t) (outcome.TakesEvent reg next) → Derived i kept (HasEvent h e)
      → Taken (with_event next reg e.ip e.address e.value)
  pub resumes : (t u next : Thread) (h : ℕ) (how : How) → Derived i kept (HasThread t) → t.origin ≡ OfSlot h
      → Contains (outcomes i kept t) (outcome.Resumes how) → Derived i kept (HasFaulted h u)
      → Contains (resumed how u) next → Taken next
  pub reads : (t u next : Thread) (h reg from : ℕ) → Derived i kept (HasThread t) → t.origin ≡ OfSlot h
      → Contains (outcomes i kept t) (outcome.ReadsServed reg from next) → Derived i kept (HasFaulted h u)
      → Taken (with_form next reg (form_in u from))
  -- pointers that are made of others
  pub below : (x : Who) (p q : Pointer) → Own x p → IsBelow q p → Own x q
  pub entered : (x : Who) (p q : Pointer) → Own x p → p.perm ≡ Eu → is_door kept p ≡ false → enter_result p ≡ Some q → Own x q
  -- pointers that are passed on in words that are not kept
  pub passed : (g : ℕ) (x : Who) (q p r : Pointer) (w : ℕ) → Own (Callers g) q → Own (Callers g) p → StoresAt p w → Own x r → LoadsAt r w → Own x q
  pub stored : (n : ℕ) (x : Who) (q p r : Pointer) (w : ℕ) (f : Form) (at reg : ℕ) → Own (Alone n) q
      → Comes i kept (OfSlot n) (outcome.HandsOut f (leak.Store at reg f)) → HandsOn q f
      → Own (Alone n) p → StoresAt p w → Own x r → LoadsAt r w → Own x q
  -- pointers that are passed on between slots and those that serve them
  pub served_up : (served server : Slot) (q : Pointer) → Contains i.slots served → Contains i.slots server → served.handler ≡ Some server.number
      → is_kernel i kept server.number ≡ false → Own (Callers served.group) q → Own (Callers server.group) q
  pub served_down : (served server : Slot) (q : Pointer) → Contains i.slots served → Contains i.slots server → served.handler ≡ Some server.number
      → is_kernel i kept server.number ≡ false → Own (Callers server.group) q → Own (Callers served.group) q
  pub seen_event : (n : ℕ) (y : Who) (q : Pointer) (reg : ℕ) (next : Thread) → Own y q → ServedBy i kept n y
      → Comes i kept (OfSlot n) (outcome.TakesEvent reg next) → Own (Alone n) q
  pub seen_register : (n : ℕ) (y : Who) (q : Pointer) (reg from : ℕ) (next : Thread) → Own y q → ServedBy i kept n y
      → Comes i kept (OfSlot n) (outcome.ReadsServed reg from next) → Own (Alone n) q
  pub given : (n : ℕ) (x : Who) (q : Pointer) (reg : ℕ) (f : Form) → Own (Alone n) q → ServedBy i kept n x
      → Comes i kept (OfSlot n) (outcome.WritesServed reg f) → HandsOn q f → Own x q
  -- pointers that the kernel's threads have
  pub exact_ip : (x : Who) (t : Thread) → Runs i kept Own x t.origin → Taken t → IsPlain kept t.ip → Own x t.ip
  pub exact_register : (x : Who) (q : Pointer) (t : Thread) (r : ℕ) → Runs i kept Own x t.origin → Taken t → r < 16
      → form_in t r ≡ Exactly q → IsPlain kept q → Own x q
  pub lets_going : (x : Who) (from : Origin) (d : Pointer) (t : Thread) (r : ℕ) → Runs i kept Own x from → is_door kept d ≡ true
      → GoesOn i kept Taken from t → r < 16 → form_in t r ≡ Exactly d → Own x d
  pub lets_hand : (x : Who) (from : Origin) (d : Pointer) (l : Leak) → Runs i kept Own x from → is_door kept d ≡ true
      → Comes i kept from (outcome.HandsOut (Exactly d) l) → Own x d
  pub kept_for : (y x : Who) (from to : Origin) (q : Pointer) (w : ℕ) (c : Cell) (put : Segment) (f : Form) (got : Segment) (reg : ℕ) (next : Thread)
      → Own y q → Runs i kept Own y from → cell_at i.memory w ≡ Some c → is_kept kept w ≡ true
      → Comes i kept from (outcome.Stores put f) → carries f ≡ true → lies_in w put ≡ true
      → Comes i kept to (outcome.Loads got reg next) → lies_in w got ≡ true → Runs i kept Own x to → Own x q
  pub freed : (s : Slot) (q : Pointer) (t : Thread) → Contains i.slots s → Own (Alone s.number) q
      → GoesOn i kept Taken (OfSlot s.number) t → Own (Callers s.group) q

-- who holds which pointers, and which threads are taken up
pub record World (i : Image) (kept : List Segment) : Type 1 where
  pub Own : Who → Pointer → Type 0
  pub Taken : Thread → Type 0
  pub rules : Rules i kept Own Taken

-- 3. Words.

pub falsely : {A : Type 0} → false ≡ true → A
falsely e = absurd (cc)

abbrev pub IfPointer : Word → (Pointer → Type 0) → Type 0
IfPointer (Int bits) P = Unit {0}
IfPointer (Ptr p) P = P p

pub each_pointer : (P Q : Pointer → Type 0) → ((p : Pointer) → P p → Q p) → (w : Word) → IfPointer w P → IfPointer w Q
each_pointer P Q f (Int bits) h = tt
each_pointer P Q f (Ptr p) h = f p h

-- a slot of the kernel, of a group
pub record KernelOf (i : Image) (kept : List Segment) (n g : ℕ) : Type 0 where
  pub slot : Slot
  pub among : Contains i.slots slot
  pub number : slot.number ≡ n
  pub group : slot.group ≡ g
  pub kernel : is_kernel_slot kept slot ≡ true
  pub is : is_kernel i kept n ≡ true

-- whose pointers a thread's are
abbrev pub party : Mode → Origin → ℕ → Who
party AsAnyone o g = Callers g
party AsKernel (Door d) g = Callers g
party AsKernel (OfSlot n) g = Alone n

-- whether a word of a form is to be its holder's: each word of anyone, and of the kernel what others had
abbrev pub Owes : Mode → Form → Type 0
Owes AsAnyone f = Unit {0}
Owes AsKernel f = carries f ≡ true

-- of the kernel's threads alone
abbrev pub Kernels : Mode → Type 0 → Type 0
Kernels AsAnyone A = Unit {0}
Kernels AsKernel A = A

-- of no other threads
abbrev pub Only : Mode → Type 0 → Type 0
Only AsAnyone A = ⊥
Only AsKernel A = A

module _ (i : Image) (kept : List Segment) (wd : World i kept) where
  -- nothing can be made of a key, so it is everybody's
  abbrev pub Mine : Who → Pointer → Type 0
  Mine x p = (p.perm ≡ Key) ⊎ wd.Own x p

  abbrev pub Has : Who → Mode → Form → Pointer → Type 0
  Has x md f p = Owes md f → Mine x p

  -- a pointer in a word that is not kept is of each who can load it
  abbrev pub Left : ℕ → Form → Pointer → Type 0
  Left w f p = (x : Who) (r : Pointer) → wd.Own x r → LoadsAt r w → Mine x p

  -- one in a kept word is of each who runs a thread that loads it
  abbrev pub KeptFor : ℕ → Form → Pointer → Type 0
  KeptFor w f p = carries f ≡ true → (x : Who) (to : Origin) (part : Segment) (reg : ℕ) (next : Thread) → Runs i kept wd.Own x to
      → Comes i kept to (outcome.Loads part reg next) → lies_in w part ≡ true → Mine x p

  -- one in an event is of the slot that takes it
  pub record Seen (n : ℕ) (p : Pointer) : Type 0 where
    pub kernel : (reg : ℕ) (next : Thread) → is_kernel i kept n ≡ true → Comes i kept (OfSlot n) (outcome.TakesEvent reg next) → Mine (Alone n) p
    pub caller : is_kernel i kept n ≡ false → (server : Slot) → Contains i.slots server → server.number ≡ n → Mine (Callers server.group) p

  abbrev pub SeenBy : ℕ → Form → Pointer → Type 0
  SeenBy n f p = carries f ≡ true → Seen n p
