-- What threads do with the pointers of others, one after the other.
use Rattle.std.specs.Prelude.{ℕ, Bool, not, ◌&&◌, if◌then◌else◌, List, [], ◌∷◌, ◌++◌, Option}
use Rattle.std.specs.{Prelude.{Some, None}, List.{flat_map}}
use Rattle.mm_word.specs.Pointer.{Pointer as PointerValue, enter_result}
use Rattle.mm_isa.specs.declared.instr.How.{How}
use Rattle.mm_model.specs.{Slot.Slot, Image.Image, Turn.is_running}
use Rattle.mm_kernel.specs.Segments.{Segment, lies_in, is_door, is_open_pointer}
use Rattle.mm_kernel.specs.declared.fact.{Leak.Leak, Handling.Handling}
use Rattle.mm_kernel.specs.declared.{form.Form.{Form, TheVariants.{Pointer, Integer}}, outcome.Outcome.Outcome}
use Rattle.mm_kernel.specs.declared.thread.{Origin.{Origin, TheVariants.{Door, Slot as OfSlot}}, Thread.Thread}
use Rattle.mm_kernel.specs.Threads.{form_in, with_form, is_free, handler_of, own_thread, thread_through}
use Rattle.mm_kernel.specs.{Turns.{outcomes, with_event}, Derived.resumed}
use Rattle.mm_keep.specs.{Claims.Tables, Searching.comes_from}
use Rattle.mm_confine.specs.Conduct.{carries}
use Rattle.mm_hold.specs.declared.deed.Deed.{Deed}
use Rattle.mm_hold.specs.declared.deed.Deed.TheVariants as deed
use Rattle.mm_kernel.specs.declared.fact.Leak.TheVariants as leak
use Rattle.mm_kernel.specs.declared.outcome.Outcome.TheVariants as outcome

-- 1. What a thread has.

-- a pointer that callers may hold, and that is no door
abbrev pub is_plain : List Segment → PointerValue → Bool
is_plain kept p = is_open_pointer kept p && not (is_door kept p)

abbrev pub plain_deeds : List Segment → Origin → PointerValue → List Deed
plain_deeds kept origin p = if is_plain kept p then deed.Has origin p ∷ [] else []

abbrev pub plain_in : List Segment → Origin → Form → List Deed
plain_in kept origin (Pointer p) = plain_deeds kept origin p
plain_in kept origin _ = []

-- the pointers that a thread has
abbrev pub had : List Segment → Thread → List Deed
had kept t = plain_deeds kept t.origin t.ip ++ flat_map (plain_in kept t.origin) t.forms

-- 2. Threads that go on as callers.

abbrev pub door_deeds : List Segment → Origin → PointerValue → List Deed
door_deeds kept origin p = if is_door kept p then deed.Has origin p ∷ [] else []

abbrev pub door_in : List Segment → Origin → Form → List Deed
door_in kept origin (Pointer p) = door_deeds kept origin p
door_in kept origin _ = []

-- a slot's thread goes on as a caller
abbrev pub goes_on : Origin → List Deed
goes_on (Door d) = []
goes_on (OfSlot n) = deed.GoesOn n ∷ []

-- a thread leaves with its forms
abbrev pub left : List Segment → Thread → List Deed
left kept t = goes_on t.origin ++ flat_map (door_in kept t.origin) t.forms

-- a thread is taken up; those that are not free are looked at by themselves
abbrev pub taken : List Segment → Thread → List Deed
taken kept t = if is_free kept t then had kept t ++ left kept t else []

-- 3. What is handed on.

-- threads of an origin hand on a form, of which a slot's are noted: that it carries, or its pointer
abbrev pub carried : (ℕ → Deed) → Form → ℕ → List Deed
carried all form n = if carries form then all n ∷ [] else []

abbrev pub handed_by : (ℕ → Deed) → (ℕ → PointerValue → Deed) → ℕ → Form → List Deed
handed_by all one n (Pointer p) = one n p ∷ []
handed_by all one n form = carried all form n

abbrev pub handed : (ℕ → Deed) → (ℕ → PointerValue → Deed) → Origin → Form → List Deed
handed all one (Door d) form = []
handed all one (OfSlot n) form = handed_by all one n form

-- a store hands on; what is given to a served slot is noted by its own outcome
abbrev pub handed_out : List Segment → Origin → Form → Leak → List Deed
handed_out kept origin form (leak.Store at reg f) =
    door_in kept origin form ++ handed deed.Sends deed.Sent origin form
handed_out kept origin form _ = door_in kept origin form

-- 4. Kept words that get a form that carries.

abbrev pub used_in : (ℕ → Origin → Deed) → Origin → Segment → ℕ → List Deed
used_in make origin part w = if lies_in w part then make w origin ∷ [] else []

abbrev pub used : (ℕ → Origin → Deed) → Origin → Segment → List ℕ → List Deed
used make origin part words = flat_map (used_in make origin part) words

abbrev pub stored_in : List ℕ → Origin → Segment → Form → List Deed
stored_in carrying origin part form = if carries form then used deed.Stored origin part carrying else []

-- 5. Threads that are taken up.

-- with a form of a kept word
abbrev pub loaded_with : List Segment → Segment → ℕ → Thread → ℕ × Form → List Deed
loaded_with kept part reg next held = if lies_in held.0 part then taken kept (with_form next reg held.1) else []

-- with each form; none makes the thread free if an integer does not
abbrev pub loaded : List Segment → List (ℕ × Form) → List (ℕ × Form) → Segment → ℕ → Thread → List Deed
loaded kept first stored part reg next =
    if is_free kept (with_form next reg Integer)
    then flat_map (loaded_with kept part reg next) first ++ flat_map (loaded_with kept part reg next) stored
    else []

-- with the words of an event of its slot
abbrev pub took : List Segment → Origin → ℕ → Thread → ℕ × Handling → List Deed
took kept origin reg next event =
    if comes_from origin event.0
    then taken kept (with_event next reg event.1.ip event.1.address event.1.value) else []

-- as its handler resumes it
abbrev pub went_on : List Segment → Origin → How → ℕ × Thread → List Deed
went_on kept origin how served =
    if comes_from origin served.0 then flat_map (taken kept) (resumed how served.1) else []

-- with a register of what its slot serves
abbrev pub read : List Segment → Origin → ℕ → ℕ → Thread → ℕ × Thread → List Deed
read kept origin reg from next served =
    if comes_from origin served.0 then taken kept (with_form next reg (form_in served.1 from)) else []

abbrev pub sees : Origin → List Deed
sees (Door d) = []
sees (OfSlot n) = deed.Sees n ∷ []

-- 6. What an outcome does.

-- all that was found of a kernel: its tables, the forms that kept words have from the start, and the kept words that
-- get a form that carries
pub record Findings : Type 0 where
  pub tables : Tables
  pub first : List (ℕ × Form)
  pub carrying : List ℕ

abbrev pub done_by : List Segment → Findings → Origin → Outcome → List Deed
done_by kept f origin (outcome.Goes next) = taken kept next
done_by kept f origin (outcome.Loads part reg next) =
    used deed.Loaded origin part f.carrying ++ loaded kept f.first f.tables.stored part reg next
done_by kept f origin (outcome.Stores part form) = stored_in f.carrying origin part form
done_by kept f origin (outcome.HandsOut form leak) = handed_out kept origin form leak
done_by kept f origin (outcome.Leaves linked) = left kept linked
done_by kept f origin (outcome.TakesEvent reg next) = sees origin ++ flat_map (took kept origin reg next) f.tables.events
done_by kept f origin (outcome.Resumes how) = flat_map (went_on kept origin how) f.tables.faulted
done_by kept f origin (outcome.ReadsServed reg from next) =
    sees origin ++ flat_map (read kept origin reg from next) f.tables.faulted
done_by kept f origin (outcome.WritesServed reg form) = handed deed.Gives deed.Given origin form
done_by kept f origin _ = []

-- what a thread has, and what its turn does
abbrev pub thread_deeds : Image → List Segment → Findings → Thread → List Deed
thread_deeds i kept f t = had kept t ++ flat_map (done_by kept f t.origin) (outcomes i kept t)

-- 7. Threads that begin.

abbrev pub slot_deeds : Image → List Segment → Slot → List Deed
slot_deeds i kept s = if is_running s.state then taken kept (own_thread i kept s) else []

abbrev pub entry_deeds : Image → List Segment → PointerValue → PointerValue → Slot → List Deed
entry_deeds i kept door ip s =
    if is_running s.state then taken kept (thread_through door ip (handler_of i kept s.handler)) else []

abbrev pub entered_by : Image → List Segment → PointerValue → Option PointerValue → List Deed
entered_by i kept door None = []
entered_by i kept door (Some ip) = flat_map (entry_deeds i kept door ip) i.slots

abbrev pub begin_deeds : Image → List Segment → List PointerValue → List Deed
begin_deeds i kept doors =
    flat_map (slot_deeds i kept) i.slots ++ flat_map (λ d. entered_by i kept d (enter_result d)) doors

-- all that is done
abbrev pub all_deeds : Image → List Segment → Findings → List Deed
all_deeds i kept f = begin_deeds i kept f.tables.doors ++ flat_map (thread_deeds i kept f) f.tables.threads

-- 8. The kept words that get a form that carries.

abbrev pub carrying_in : ℕ × Form → List ℕ
carrying_in held = if carries held.1 then held.0 ∷ [] else []
