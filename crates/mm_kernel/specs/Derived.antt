-- What a kernel comes to, whatever its callers do: the least sets of facts under its rules.
use Rattle.std.specs.Prelude.{◌≡◌, ℕ, Bool, true, false, ◌&&◌, ◌||◌, not, if◌then◌else◌, List, [], ◌∷◌, ◌++◌, Contains}
use Rattle.std.specs.{Prelude.{Some, pos, Ok}, List.{flat_map, range_with_len}}
use Rattle.mm_word.specs.declared.perm.{Perm.{Perm, TheVariants.{Ro, Rw, Xu, Eu}}, Kind.TheVariants.Fetch}
use Rattle.mm_word.specs.declared.word.{Word.{Word, TheVariants.{Int, Ptr}}, Cell.Cell}
use Rattle.mm_word.specs.{Access.{AccessValue, check_result}, Pointer.{Pointer as PointerValue, enter_result}}
use Rattle.mm_isa.specs.declared.instr.How.{How, TheVariants.{Retry, Skip, Kill}}
use Rattle.mm_model.specs.{Memory.cell_at, Slot.Slot, Effect.{advanced, runs_past}, Image.Image}
use Rattle.mm_kernel.specs.Segments.{Segment, lies_in, is_kept, is_fixed, is_inside, meets, live_pointers}
use Rattle.mm_kernel.specs.Segments.{running_slots, is_user}
use Rattle.mm_kernel.specs.declared.fact.Leak.{Leak, TheVariants.{Across, Cell as InCell, Jump, FaultPointer, Fault}}
use Rattle.mm_kernel.specs.declared.{fact.Handling.Handling, form.Form.{Form, TheVariants.{Pointer, Integer}}}
use Rattle.mm_kernel.specs.declared.outcome.Outcome.{Outcome}
use Rattle.mm_kernel.specs.declared.thread.Handler.{Handler, TheVariants.{Nobody, Kernel, Caller}}
use Rattle.mm_kernel.specs.declared.thread.{Origin.{TheVariants.{Slot as OfSlot}}, Thread.Thread}
use Rattle.mm_kernel.specs.Forms.{exactly, is_open_form}
use Rattle.mm_kernel.specs.Threads.{form_in, with_form, handler_of, own_thread, thread_through}
use Rattle.mm_kernel.specs.Facts.{Fact, hand_out, loose, take_up}
use Rattle.mm_kernel.specs.Facts.Fact.{HasThread, HasForm, HasDoor, HasEvent, HasFaulted, HasLeak}
use Rattle.mm_kernel.specs.Turns.{outcomes, with_event}
use Rattle.mm_kernel.specs.declared.outcome.Outcome.TheVariants as outcome

-- 1. What an image begins with.

-- what a kept word may hold from the start: an integer that can be changed may be any later
abbrev pub first_form : (is_fixed : Bool) → Word → Form
first_form false (Int bits) = Integer
first_form _ w = exactly w

-- the form that a kept word of the image's pages has from the start
pub record HasFirst (i : Image) (kept : List Segment) (w : ℕ) (form : Form) : Type 0 where
  pub cell : Cell
  pub at : cell_at i.memory w ≡ Some cell
  pub of_kept : is_kept kept w ≡ true
  pub first : first_form (is_fixed i w) cell.word ≡ form

-- a cell of the image: a kept word has a form, and any other is handed out
abbrev pub cell_facts : Image → List Segment → ℕ → Word → List Fact
cell_facts i kept w word =
    if is_kept kept w then HasForm w (first_form (is_fixed i w) word) ∷ []
    else hand_out kept (exactly word) (InCell w (exactly word))

-- permissions by which a segment is used: all of user code but that of keys
abbrev pub has_segment : Perm → Bool
has_segment Ro = true
has_segment Rw = true
has_segment Xu = true
has_segment Eu = true
has_segment _ = false

-- a live pointer that loads, stores, is jumped to or runs code must not reach both kept words and others
abbrev pub reaches_across : List Segment → PointerValue → Bool
reaches_across kept p = has_segment p.perm && (meets kept p && not (is_inside kept p))

-- 2. What follows from an outcome of a turn.

-- a caller that handles a fault gets to see the registers
abbrev pub register_shown : List Segment → Thread → ℕ → List Fact
register_shown kept t r = if is_open_form kept (form_in t r) then [] else HasLeak (Fault t.ip.addr r (form_in t r)) ∷ []

abbrev pub shown : List Segment → Thread → List Fact
shown kept t =
    (if meets kept t.ip then HasLeak (FaultPointer t.ip.addr) ∷ [] else [])
    ++ flat_map (register_shown kept t) (range_with_len 0 16)

-- a fault goes to the handler, if there is one
abbrev pub fault_facts : List Segment → Thread → Handler → Form → Form → List Fact
fault_facts kept t Nobody address value = []
fault_facts kept t (Kernel h) address value =
    HasEvent h (record { ip = Pointer t.ip; address = address; value = value }) ∷ HasFaulted h t ∷ []
fault_facts kept t Caller address value = shown kept t

-- a register of a thread that leaves
abbrev pub register_left : List Segment → Thread → ℕ → List Fact
register_left kept t r = hand_out kept (form_in t r) (Jump t.ip.addr r (form_in t r))

-- what follows from an outcome alone
abbrev pub outcome_facts : Image → List Segment → Thread → Outcome → List Fact
outcome_facts i kept t (outcome.Goes next) = take_up i kept next
outcome_facts i kept t (outcome.Leaves linked) =
    flat_map (register_left kept linked) (range_with_len 0 16) ++ loose i kept linked.origin
outcome_facts i kept t (outcome.HandsOut form leak) = hand_out kept form leak
outcome_facts i kept t (outcome.Leaks leak) = HasLeak leak ∷ []
outcome_facts i kept t (outcome.Faults address value) = fault_facts kept t t.handler address value
outcome_facts i kept t _ = []

-- the thread after the instruction at which it faulted; past the segment's end it stays there
abbrev pub on_after : Thread → Thread
on_after t = record t { ip = advanced t.ip; past = t.past || runs_past t.ip }

-- a faulted thread after its handler resumed it
abbrev pub resumed : How → Thread → List Thread
resumed Retry t = t ∷ []
resumed Skip t = on_after t ∷ []
resumed Kill t = []

-- 3. The rules.

pub data Derived (i : Image) (kept : List Segment) : Fact → Type 0 where
  -- the image's cells
  begins_in_cell : {fact : Fact} (w : ℕ) (c : Cell) → cell_at i.memory w ≡ Some c
      → Contains (cell_facts i kept w c.word) fact → Derived i kept fact
  -- the threads of the image's running slots
  begins_in_slot : {fact : Fact} (s : Slot) → Contains (running_slots i) s
      → Contains (take_up i kept (own_thread i kept s)) fact → Derived i kept fact
  -- a live pointer that reaches across
  reaches : (p : PointerValue) → Contains (live_pointers i) p → reaches_across kept p ≡ true
      → Derived i kept (HasLeak (Across p))
  -- a thread through a door, in a slot with the handler of any running slot
  enters : {fact : Fact} (door ip : PointerValue) (s : Slot) → Derived i kept (HasDoor door)
      → enter_result door ≡ Some ip
      → Contains (running_slots i) s
      → Contains (take_up i kept (thread_through door ip (handler_of i kept s.handler))) fact
      → Derived i kept fact
  -- an outcome of a thread's turn
  turns : {fact : Fact} (t : Thread) (o : Outcome) → Derived i kept (HasThread t) → Contains (outcomes i kept t) o
      → Contains (outcome_facts i kept t o) fact → Derived i kept fact
  -- a load: each form of a kept word that it may reach
  loads : {fact : Fact} (t next : Thread) (part : Segment) (reg w : ℕ) (f : Form) → Derived i kept (HasThread t)
      → Contains (outcomes i kept t) (outcome.Loads part reg next) → Derived i kept (HasForm w f)
      → lies_in w part ≡ true
      → Contains (take_up i kept (with_form next reg f)) fact → Derived i kept fact
  -- a store: each kept word of the image's pages that it may reach
  stores : (t : Thread) (part : Segment) (w : ℕ) (c : Cell) (f : Form) → Derived i kept (HasThread t)
      → Contains (outcomes i kept t) (outcome.Stores part f) → cell_at i.memory w ≡ Some c → is_kept kept w ≡ true
      → lies_in w part ≡ true → Derived i kept (HasForm w f)
  -- an event that a slot of the kernel takes
  takes : {fact : Fact} (t next : Thread) (h reg : ℕ) (e : Handling) → Derived i kept (HasThread t)
      → t.origin ≡ OfSlot h → Contains (outcomes i kept t) (outcome.TakesEvent reg next)
      → Derived i kept (HasEvent h e) → Contains (take_up i kept (with_event next reg e.ip e.address e.value)) fact
      → Derived i kept fact
  -- a faulted thread that a slot of the kernel resumes
  resumes : {fact : Fact} (t u next : Thread) (h : ℕ) (how : How) → Derived i kept (HasThread t)
      → t.origin ≡ OfSlot h → Contains (outcomes i kept t) (outcome.Resumes how) → Derived i kept (HasFaulted h u)
      → Contains (resumed how u) next → Contains (take_up i kept next) fact → Derived i kept fact
  -- a register of a faulted thread that a slot of the kernel reads
  reads_served : {fact : Fact} (t u next : Thread) (h reg from : ℕ) → Derived i kept (HasThread t)
      → t.origin ≡ OfSlot h → Contains (outcomes i kept t) (outcome.ReadsServed reg from next)
      → Derived i kept (HasFaulted h u) → Contains (take_up i kept (with_form next reg (form_in u from))) fact
      → Derived i kept fact
  -- a register of a faulted thread that a slot of the kernel writes
  writes_served : (t u : Thread) (h reg : ℕ) (f : Form) → Derived i kept (HasThread t)
      → t.origin ≡ OfSlot h → Contains (outcomes i kept t) (outcome.WritesServed reg f)
      → Derived i kept (HasFaulted h u) → Derived i kept (HasFaulted h (with_form u reg f))

-- 4. The answer.

-- the kernel keeps its segments: nobody is privileged, and no leak is derived
pub record Keeps (i : Image) (kept : List Segment) : Type 0 where
  pub user : is_user i ≡ true
  pub no_leak : (leak : Leak) → Derived i kept (HasLeak leak) → ⊥

-- 5. What threads use.

-- the word that a thread's turn fetches
pub record Fetches (t : Thread) (w : ℕ) : Type 0 where
  pub on : t.past ≡ false
  pub access : AccessValue
  pub checked : check_result (Ptr t.ip) (pos 0) Fetch ≡ Ok access
  pub at : access.addr ≡ w

-- a code word: some thread of the kernel fetches it
pub record IsCode (i : Image) (kept : List Segment) (w : ℕ) : Type 0 where
  pub thread : Thread
  pub derived : Derived i kept (HasThread thread)
  pub fetches : Fetches thread w
