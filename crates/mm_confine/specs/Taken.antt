-- The threads that are taken up: those that are looked at, and those that are free.
use Rattle.std.specs.Prelude.{◌≡◌, ℕ, List, Contains, true, Some}
use Rattle.mm_word.specs.Pointer.{Pointer, enter_result}
use Rattle.mm_isa.specs.declared.instr.How.{How}
use Rattle.mm_model.specs.{Slot.Slot, Image.Image}
use Rattle.mm_kernel.specs.Segments.{Segment, lies_in, running_slots}
use Rattle.mm_kernel.specs.declared.{fact.Handling.Handling, form.Form.Form}
use Rattle.mm_kernel.specs.declared.thread.{Origin.{TheVariants.{Slot as OfSlot}}, Thread.Thread}
use Rattle.mm_kernel.specs.Threads.{form_in, with_form, handler_of, own_thread, thread_through}
use Rattle.mm_kernel.specs.Facts.Fact.{HasThread, HasForm, HasDoor, HasEvent, HasFaulted}
use Rattle.mm_kernel.specs.{Turns.{outcomes, with_event}, Derived.{Derived, resumed}}
use Rattle.mm_kernel.specs.declared.outcome.Outcome.TheVariants as outcome

-- one constructor for each rule by which a thread is taken up
pub data TakenUp (i : Image) (kept : List Segment) : Thread → Type 0 where
  begins : (s : Slot) → Contains (running_slots i) s → TakenUp i kept (own_thread i kept s)
  enters : (door ip : Pointer) (s : Slot) → Derived i kept (HasDoor door) → enter_result door ≡ Some ip
      → Contains (running_slots i) s → TakenUp i kept (thread_through door ip (handler_of i kept s.handler))
  goes : {next : Thread} (t : Thread) → Derived i kept (HasThread t) → Contains (outcomes i kept t) (outcome.Goes next)
      → TakenUp i kept next
  loads : (t next : Thread) (part : Segment) (reg w : ℕ) (f : Form) → Derived i kept (HasThread t)
      → Contains (outcomes i kept t) (outcome.Loads part reg next) → Derived i kept (HasForm w f)
      → lies_in w part ≡ true → TakenUp i kept (with_form next reg f)
  takes : (t next : Thread) (h reg : ℕ) (e : Handling) → Derived i kept (HasThread t) → t.origin ≡ OfSlot h
      → Contains (outcomes i kept t) (outcome.TakesEvent reg next) → Derived i kept (HasEvent h e)
      → TakenUp i kept (with_event next reg e.ip e.address e.value)
  resumes : {next : Thread} (t u : Thread) (h : ℕ) (how : How) → Derived i kept (HasThread t) → t.origin ≡ OfSlot h
      → Contains (outcomes i kept t) (outcome.Resumes how) → Derived i kept (HasFaulted h u)
      → Contains (resumed how u) next → TakenUp i kept next
  reads_served : (t u next : Thread) (h reg from : ℕ) → Derived i kept (HasThread t) → t.origin ≡ OfSlot h
      → Contains (outcomes i kept t) (outcome.ReadsServed reg from next) → Derived i kept (HasFaulted h u)
      → TakenUp i kept (with_form next reg (form_in u from))
