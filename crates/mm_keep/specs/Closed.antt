-- Tables that are closed under each rule by which facts of a kernel are derived.
use Rattle.std.specs.Prelude.{◌≡◌, ℕ, true, List, Contains, Some}
use Rattle.mm_word.specs.{declared.word.Cell.Cell, Pointer.{Pointer, enter_result}}
use Rattle.mm_isa.specs.declared.instr.How.{How}
use Rattle.mm_model.specs.{Memory.cell_at, Slot.Slot, Image.Image}
use Rattle.mm_kernel.specs.Segments.{Segment, is_kept, lies_in, live_pointers, running_slots}
use Rattle.mm_kernel.specs.declared.{fact.{Leak.TheVariants.Across, Handling.Handling}, form.Form.Form}
use Rattle.mm_kernel.specs.declared.outcome.Outcome.{Outcome}
use Rattle.mm_kernel.specs.declared.thread.{Origin.{TheVariants.{Slot as OfSlot}}, Thread.Thread}
use Rattle.mm_kernel.specs.Threads.{form_in, with_form, handler_of, own_thread, thread_through}
use Rattle.mm_kernel.specs.Facts.{Fact, take_up, Fact.{HasThread, HasForm, HasDoor, HasEvent, HasFaulted, HasLeak}}
use Rattle.mm_kernel.specs.{Turns.{outcomes, with_event}, Derived.{cell_facts, outcome_facts, reaches_across, resumed}}
use Rattle.mm_keep.specs.Claims.{Tables, HoldsFact}
use Rattle.mm_kernel.specs.declared.outcome.Outcome.TheVariants as outcome

-- one field for each rule of `Derived`
pub record IsClosed (i : Image) (kept : List Segment) (tables : Tables) : Type 0 where
  pub begins_in_cell : (w : ℕ) (c : Cell) → cell_at i.memory w ≡ Some c
      → (fact : Fact) → Contains (cell_facts i kept w c.word) fact → HoldsFact i kept tables fact
  pub begins_in_slot : (s : Slot) → Contains (running_slots i) s
      → (fact : Fact) → Contains (take_up i kept (own_thread i kept s)) fact → HoldsFact i kept tables fact
  pub reaches : (p : Pointer) → Contains (live_pointers i) p → reaches_across kept p ≡ true
      → HoldsFact i kept tables (HasLeak (Across p))
  pub enters : (door ip : Pointer) (s : Slot) → HoldsFact i kept tables (HasDoor door) → enter_result door ≡ Some ip
      → Contains (running_slots i) s → (fact : Fact)
      → Contains (take_up i kept (thread_through door ip (handler_of i kept s.handler))) fact → HoldsFact i kept tables fact
  pub turns : (t : Thread) (o : Outcome) → HoldsFact i kept tables (HasThread t) → Contains (outcomes i kept t) o
      → (fact : Fact) → Contains (outcome_facts i kept t o) fact → HoldsFact i kept tables fact
  pub loads : (t next : Thread) (part : Segment) (reg w : ℕ) (f : Form) → HoldsFact i kept tables (HasThread t)
      → Contains (outcomes i kept t) (outcome.Loads part reg next) → HoldsFact i kept tables (HasForm w f)
      → lies_in w part ≡ true → (fact : Fact) → Contains (take_up i kept (with_form next reg f)) fact
      → HoldsFact i kept tables fact
  pub stores : (t : Thread) (part : Segment) (w : ℕ) (c : Cell) (f : Form) → HoldsFact i kept tables (HasThread t)
      → Contains (outcomes i kept t) (outcome.Stores part f) → cell_at i.memory w ≡ Some c → is_kept kept w ≡ true
      → lies_in w part ≡ true → HoldsFact i kept tables (HasForm w f)
  pub takes : (t next : Thread) (h reg : ℕ) (e : Handling) → HoldsFact i kept tables (HasThread t) → t.origin ≡ OfSlot h
      → Contains (outcomes i kept t) (outcome.TakesEvent reg next) → HoldsFact i kept tables (HasEvent h e)
      → (fact : Fact) → Contains (take_up i kept (with_event next reg e.ip e.address e.value)) fact
      → HoldsFact i kept tables fact
  pub resumes : (t u next : Thread) (h : ℕ) (how : How) → HoldsFact i kept tables (HasThread t) → t.origin ≡ OfSlot h
      → Contains (outcomes i kept t) (outcome.Resumes how) → HoldsFact i kept tables (HasFaulted h u)
      → Contains (resumed how u) next → (fact : Fact) → Contains (take_up i kept next) fact → HoldsFact i kept tables fact
  pub reads_served : (t u next : Thread) (h reg from : ℕ) → HoldsFact i kept tables (HasThread t) → t.origin ≡ OfSlot h
      → Contains (outcomes i kept t) (outcome.ReadsServed reg from next) → HoldsFact i kept tables (HasFaulted h u)
      → (fact : Fact) → Contains (take_up i kept (with_form next reg (form_in u from))) fact
      → HoldsFact i kept tables fact
  pub writes_served : (t u : Thread) (h reg : ℕ) (f : Form) → HoldsFact i kept tables (HasThread t) → t.origin ≡ OfSlot h
      → Contains (outcomes i kept t) (outcome.WritesServed reg f) → HoldsFact i kept tables (HasFaulted h u)
      → HoldsFact i kept tables (HasFaulted h (with_form u reg f))
