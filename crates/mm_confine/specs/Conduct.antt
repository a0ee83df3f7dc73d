-- What the kernel's threads do with the pointers of others, by the origin of the threads.
use Rattle.std.specs.Prelude.{◌≡◌, ℕ, ◌<◌, true, false, List, Contains, Some}
use Rattle.mm_word.specs.declared.word.Cell.{Cell}
use Rattle.mm_word.specs.Pointer.{Pointer as PointerValue}
use Rattle.mm_model.specs.{Memory.cell_at, Image.Image}
use Rattle.mm_kernel.specs.Segments.{Segment, is_kept, lies_in, is_door, is_open_pointer}
use Rattle.mm_kernel.specs.declared.{fact.Leak.Leak, form.Form.{Form, TheVariants.Pointer}}
use Rattle.mm_kernel.specs.declared.{outcome.Outcome.Outcome, thread.{Origin.{Origin, TheVariants.{Slot as OfSlot}}, Thread.Thread}}
use Rattle.mm_kernel.specs.{Threads.{form_in, is_free}, Facts.Fact.HasThread, Turns.outcomes, Derived.Derived}
use Rattle.mm_confine.specs.Taken.{TakenUp}
pub use Rattle.mm_kernel.specs.Forms.{carries}
use Rattle.mm_kernel.specs.declared.fact.Leak.TheVariants as leak
use Rattle.mm_kernel.specs.declared.outcome.Outcome.TheVariants as outcome

-- 1. Forms.

-- a form hands on a pointer: it is the pointer's own, or it carries
pub data HandsOn (q : PointerValue) : Form → Type 0 where
  exact : HandsOn q (Pointer q)
  carried : {form : Form} → carries form ≡ true → HandsOn q form

-- a thread has a pointer: it runs by it, or has it in a register
pub data HasExactly (t : Thread) (q : PointerValue) : Type 0 where
  runs_by : t.ip ≡ q → HasExactly t q
  in_register : (r : ℕ) → r < 16 → form_in t r ≡ Pointer q → HasExactly t q

-- a pointer that a caller may have, and that is no door
abbrev pub IsPlain : List Segment → PointerValue → Type 0
IsPlain kept q = (is_open_pointer kept q ≡ true) × (is_door kept q ≡ false)

-- 2. Threads of an origin.

-- a derived thread of an origin has an outcome
pub record ComesTo (i : Image) (kept : List Segment) (from : Origin) (o : Outcome) : Type 0 where
  pub thread : Thread
  pub derived : Derived i kept (HasThread thread)
  pub origin : thread.origin ≡ from
  pub comes : Contains (outcomes i kept thread) o

-- a thread of an origin goes on as a caller: it comes to be free, or leaves
pub data GoesOn (i : Image) (kept : List Segment) (from : Origin) (t : Thread) : Type 0 where
  comes_free : TakenUp i kept t → t.origin ≡ from → is_free kept t ≡ true → GoesOn i kept from t
  leaves : ComesTo i kept from (outcome.Leaves t) → GoesOn i kept from t

-- the threads of an origin let a door out
pub data LetsOut (i : Image) (kept : List Segment) (from : Origin) (d : PointerValue) : Type 0 where
  by_going : (t : Thread) (r : ℕ) → GoesOn i kept from t → r < 16 → form_in t r ≡ Pointer d → LetsOut i kept from d
  by_hand : (leak : Leak) → ComesTo i kept from (outcome.HandsOut (Pointer d) leak) → LetsOut i kept from d

-- a thread of the first origin stores a form that carries to a kept word of the image's pages that a thread of the second
-- one loads
pub record PassesInside (i : Image) (kept : List Segment) (from to : Origin) : Type 0 where
  pub word : ℕ
  pub cell : Cell
  pub at : cell_at i.memory word ≡ Some cell
  pub of_kept : is_kept kept word ≡ true
  pub stored_in : Segment
  pub form : Form
  pub stores : ComesTo i kept from (outcome.Stores stored_in form)
  pub carried : carries form ≡ true
  pub here : lies_in word stored_in ≡ true
  pub loaded_from : Segment
  pub reg : ℕ
  pub next : Thread
  pub loads : ComesTo i kept to (outcome.Loads loaded_from reg next)
  pub there : lies_in word loaded_from ≡ true

-- 3. Threads of a slot of the kernel.

-- threads of a slot store a pointer to a word that is not kept
pub record StoresOut (i : Image) (kept : List Segment) (n : ℕ) (q : PointerValue) : Type 0 where
  pub form : Form
  pub at : ℕ
  pub reg : ℕ
  pub stores : ComesTo i kept (OfSlot n) (outcome.HandsOut form (leak.Store at reg form))
  pub hands_on : HandsOn q form

-- threads of a slot write a pointer into a register of what the slot serves
pub record GivesServed (i : Image) (kept : List Segment) (n : ℕ) (q : PointerValue) : Type 0 where
  pub form : Form
  pub reg : ℕ
  pub writes : ComesTo i kept (OfSlot n) (outcome.WritesServed reg form)
  pub hands_on : HandsOn q form

-- threads of a slot look at what the slot serves
pub data SeesServed (i : Image) (kept : List Segment) (n : ℕ) : Type 0 where
  takes_event : (reg : ℕ) (next : Thread) → ComesTo i kept (OfSlot n) (outcome.TakesEvent reg next)
      → SeesServed i kept n
  reads_register : (reg from : ℕ) (next : Thread) → ComesTo i kept (OfSlot n) (outcome.ReadsServed reg from next)
      → SeesServed i kept n
