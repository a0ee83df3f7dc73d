-- What a search finds, step by step, and how far it has come.
use Rattle.std.specs.Prelude.{◌≡◌, ℕ, zero, suc, ◌+◌, ◌*◌, ◌<◌, ◌≤◌, ◌==◌, if◌then◌else◌, Bool, true, false, List, []}
use Rattle.std.specs.Prelude.{◌∷◌, ◌++◌, length, Contains, Option, Some, None, slice_get}
use Rattle.std.specs.List.{flat_map, list_any}
use Rattle.mm_word.specs.{Pointer.{Pointer, enter_result}, declared.word.Cell.Cell}
use Rattle.mm_isa.specs.declared.instr.How.{How}
use Rattle.mm_model.specs.{Memory.cell_at, Slot.Slot, Image.Image, Turn.is_running}
use Rattle.mm_kernel.specs.Segments.{Segment, is_kept, is_fixed, lies_in, meets, live_pointers}
use Rattle.mm_kernel.specs.declared.fact.{Leak.TheVariants.{Across, Cell as InCell, FaultPointer}, Handling.Handling}
use Rattle.mm_kernel.specs.declared.{form.Form.Form, outcome.Outcome.Outcome, thread.{Handler.Handler, Thread.Thread}}
use Rattle.mm_kernel.specs.declared.thread.Origin.{Origin, TheVariants.{Door, Slot as OfSlot}}
use Rattle.mm_kernel.specs.{Forms.exactly, Threads.{form_in, with_form, handler_of, own_thread, thread_through}}
use Rattle.mm_kernel.specs.Facts.{Fact, hand_out, take_up, Fact.{HasForm, HasFaulted, HasLeak}}
use Rattle.mm_kernel.specs.Turns.{outcomes, with_event}
use Rattle.mm_kernel.specs.Derived.{Derived, first_form, outcome_facts, reaches_across, resumed}
use Rattle.mm_keep.specs.declared.search.Search.{Search}
use Rattle.mm_keep.specs.Claims.{Claim, Tables, Facts, Only, Holds, HoldsFact, IsSound, Grows}
use Rattle.mm_keep.specs.Claims.Claim.{SomeResumes, SomeWrites}
use Rattle.mm_kernel.specs.declared.outcome.Outcome.TheVariants as outcome

-- 1. What the image begins with.

-- the leak of a live pointer that reaches across
abbrev pub across_facts : List Segment → Pointer → List Fact
across_facts kept p = if reaches_across kept p then HasLeak (Across p) ∷ [] else []

-- the form that a kept word has from the start
abbrev pub first_in : Image → List Segment → ℕ → Option Cell → List (ℕ × Form)
first_in i kept w None = []
first_in i kept w (Some c) = if is_kept kept w then (w, first_form (is_fixed i w) c.word) ∷ [] else []

abbrev pub first_at : Image → List Segment → ℕ → List (ℕ × Form)
first_at i kept w = first_in i kept w (cell_at i.memory w)

-- what any other word hands out
abbrev pub handed_in : Image → List Segment → ℕ → Option Cell → List Fact
handed_in i kept w None = []
handed_in i kept w (Some c) = if is_kept kept w then [] else hand_out kept (exactly c.word) (InCell w (exactly c.word))

abbrev pub handed_at : Image → List Segment → ℕ → List Fact
handed_at i kept w = handed_in i kept w (cell_at i.memory w)

-- the first words of a page
unfoldable pub words_below : ℕ → ℕ → List ℕ
words_below page zero = []
words_below page (suc n) = words_below page n ++ (page * 4096 + 8 * n) ∷ []

-- the words of a page
abbrev pub page_handed : Image → List Segment → ℕ × List Cell → List Fact
page_handed i kept page = flat_map (handed_at i kept) (words_below page.0 512)

abbrev pub page_first : Image → List Segment → ℕ × List Cell → List (ℕ × Form)
page_first i kept page = flat_map (first_at i kept) (words_below page.0 512)

-- a slot that runs: its thread, and its handler
abbrev pub slot_facts : Image → List Segment → Slot → List Fact
slot_facts i kept s = if is_running s.state then take_up i kept (own_thread i kept s) else []

abbrev pub handler_in : Image → List Segment → Slot → List Handler
handler_in i kept s = if is_running s.state then handler_of i kept s.handler ∷ [] else []

abbrev pub handlers_in : Image → List Segment → List Handler
handlers_in i kept = flat_map (handler_in i kept) i.slots

-- all that the image begins with, beside the forms of its kept words
abbrev pub begin_facts : Image → List Segment → List Fact
begin_facts i kept =
    flat_map (across_facts kept) (live_pointers i)
    ++ (flat_map (page_handed i kept) i.memory.pages ++ flat_map (slot_facts i kept) i.slots)

abbrev pub firsts_in : Image → List Segment → List (ℕ × Form)
firsts_in i kept = flat_map (page_first i kept) i.memory.pages

-- 2. What follows from a turn of a thread by itself.

-- the instruction pointer of a thread, shown to who handles its fault
abbrev pub pointer_shown : List Segment → Thread → List Fact
pointer_shown kept t = if meets kept t.ip then HasLeak (FaultPointer t.ip.addr) ∷ [] else []

-- a load, with a form that a kept word has
abbrev pub loaded_facts : Image → List Segment → Segment → ℕ → Thread → ℕ × Form → List Fact
loaded_facts i kept part reg next held =
    if lies_in held.0 part then take_up i kept (with_form next reg held.1) else []

-- a store, to a kept word
abbrev pub stored_facts : Segment → Form → ℕ × Form → List Fact
stored_facts part form held = if lies_in held.0 part then HasForm held.0 form ∷ [] else []

-- what a slot's thread does to what the slot serves
abbrev pub ResumesBy : Origin → How → Claim → Type 0
ResumesBy (Door d) how claim = ⊥
ResumesBy (OfSlot slot) how claim = Only (SomeResumes slot how) claim

abbrev pub WritesBy : Origin → ℕ → Form → Claim → Type 0
WritesBy (Door d) reg form claim = ⊥
WritesBy (OfSlot slot) reg form claim = Only (SomeWrites slot reg form) claim

-- what follows from an outcome at once, where kept words have these forms from the start
abbrev pub FollowsAtOnce : Image → List Segment → List (ℕ × Form) → Thread → Outcome → Claim → Type 0
FollowsAtOnce i kept first t (outcome.Loads part reg next) claim =
    Facts (flat_map (loaded_facts i kept part reg next) first) claim
FollowsAtOnce i kept first t (outcome.Stores part form) claim = Facts (flat_map (stored_facts part form) first) claim
FollowsAtOnce i kept first t (outcome.Resumes how) claim = ResumesBy t.origin how claim
FollowsAtOnce i kept first t (outcome.WritesServed reg form) claim = WritesBy t.origin reg form claim
FollowsAtOnce i kept first t o claim = Facts (outcome_facts i kept t o) claim

-- what follows from some outcome of a list
pub record SomeAtOnce (i : Image) (kept : List Segment) (first : List (ℕ × Form)) (t : Thread) (from : List Outcome)
    (claim : Claim) : Type 0 where
  pub outcome : Outcome
  pub comes : Contains from outcome
  pub follows : FollowsAtOnce i kept first t outcome claim

-- 3. What follows from a turn of a thread and from what others leave.

abbrev pub comes_from : Origin → ℕ → Bool
comes_from (Door d) slot = false
comes_from (OfSlot n) slot = n == slot

-- an event of its slot
abbrev pub taken_facts : Image → List Segment → Origin → ℕ → Thread → ℕ × Handling → List Fact
taken_facts i kept origin reg next e =
    if comes_from origin e.0 then take_up i kept (with_event next reg e.1.ip e.1.address e.1.value) else []

-- a register of a thread that its slot serves
abbrev pub read_facts : Image → List Segment → Origin → ℕ → ℕ → Thread → ℕ × Thread → List Fact
read_facts i kept origin reg from next served =
    if comes_from origin served.0 then take_up i kept (with_form next reg (form_in served.1 from)) else []

abbrev pub follows_from : Image → List Segment → Tables → Thread → Outcome → List Fact
follows_from i kept tables t (outcome.Loads part reg next) = flat_map (loaded_facts i kept part reg next) tables.stored
follows_from i kept tables t (outcome.TakesEvent reg next) =
    flat_map (taken_facts i kept t.origin reg next) tables.events
follows_from i kept tables t (outcome.ReadsServed reg from next) =
    flat_map (read_facts i kept t.origin reg from next) tables.faulted
follows_from i kept tables t o = []

abbrev pub again_of : Image → List Segment → Tables → Option Thread → List Fact
again_of i kept tables None = []
again_of i kept tables (Some t) = flat_map (follows_from i kept tables t) (outcomes i kept t)

-- what follows from a thread by its index
abbrev pub again_facts : Image → List Segment → Tables → ℕ → List Fact
again_facts i kept tables at = again_of i kept tables (slice_get tables.threads at)

-- an outcome depends on what others leave
abbrev pub depends : Outcome → Bool
depends (outcome.Loads part reg next) = true
depends (outcome.TakesEvent reg next) = true
depends (outcome.ReadsServed reg from next) = true
depends _ = false

-- the index of a thread, if one of these outcomes of it depends on what others leave
abbrev pub noted : ℕ → List Outcome → List ℕ
noted at from = if list_any depends from then at ∷ [] else []

-- 4. What follows from doors, and from faulted threads.

abbrev pub entered_facts : Image → List Segment → List Handler → Pointer → Option Pointer → List Fact
entered_facts i kept handlers door None = []
entered_facts i kept handlers door (Some ip) = flat_map (λ n. take_up i kept (thread_through door ip n)) handlers

-- the threads that enter a door
abbrev pub enter_facts : Image → List Segment → List Handler → Pointer → List Fact
enter_facts i kept handlers door = entered_facts i kept handlers door (enter_result door)

-- a faulted thread that a thread of its handler resumes
abbrev pub resumed_facts : Image → List Segment → ℕ → Thread → ℕ × How → List Fact
resumed_facts i kept slot u done = if done.0 == slot then flat_map (take_up i kept) (resumed done.1 u) else []

-- a faulted thread in which a thread of its handler writes a register
abbrev pub written_facts : ℕ → Thread → ℕ × ℕ × Form → List Fact
written_facts slot u done = if done.0 == slot then HasFaulted slot (with_form u done.1 done.2) ∷ [] else []

abbrev pub goes_on_facts : Image → List Segment → Tables → ℕ × Thread → List Fact
goes_on_facts i kept tables f =
    flat_map (resumed_facts i kept f.0 f.1) tables.resumes ++ flat_map (written_facts f.0 f.1) tables.writes

-- 5. A search.

-- these facts are held afterwards, all that was held is, and what was sound stays sound
pub record Derives (i : Image) (kept : List Segment) (facts : List Fact) (old new : Tables) : Type 0 where
  pub grows : Grows old new
  pub holds : (fact : Fact) → Contains facts fact → HoldsFact i kept new fact
  pub sound : IsSound i kept old → IsSound i kept new

-- what holds of a search before each round: what was found is sound, and what is looked at once was
pub record IsSearching (i : Image) (kept : List Segment) (s : Search) : Type 0 where
  pub handlers : s.handlers.items ≡ handlers_in i kept
  pub first : s.first.items ≡ firsts_in i kept
  pub sound : IsSound i kept s.tables
  pub begun : (fact : Fact) → Contains (begin_facts i kept) fact → HoldsFact i kept s.tables fact
  pub room : s.looked ≤ length s.tables.threads
  pub few : s.looked ≤ s.limit
  pub looked : (k : ℕ) (t : Thread) → k < s.looked → slice_get s.tables.threads k ≡ Some t → (claim : Claim)
      → SomeAtOnce i kept s.first.items t (outcomes i kept t) claim → Holds i kept s.tables claim
  pub readers : (k : ℕ) (t : Thread) → k < s.looked → slice_get s.tables.threads k ≡ Some t
      → list_any depends (outcomes i kept t) ≡ true → Contains s.readers.items k
  pub inside : (k : ℕ) → Contains s.readers.items k → k < length s.tables.threads

-- a round put in all that follows from what was there when it began
pub record WentRound (i : Image) (kept : List Segment) (old new : Search) : Type 0 where
  pub grows : Grows old.tables new.tables
  pub all : length old.tables.threads ≤ new.looked
  pub entered : (fact : Fact) → Contains (flat_map (enter_facts i kept (handlers_in i kept)) old.tables.doors) fact
      → HoldsFact i kept new.tables fact
  pub went_on : (fact : Fact) → Contains (flat_map (goes_on_facts i kept old.tables) old.tables.faulted) fact
      → HoldsFact i kept new.tables fact
  pub read : (k : ℕ) (fact : Fact) → Contains (again_facts i kept old.tables k) fact
      → HoldsFact i kept new.tables fact

-- the tables have exactly the derived facts
pub record IsExact (i : Image) (kept : List Segment) (tables : Tables) : Type 0 where
  pub sound : (fact : Fact) → HoldsFact i kept tables fact → Derived i kept fact
  pub whole : (fact : Fact) → Derived i kept fact → HoldsFact i kept tables fact
