-- All that a run reaches is granted.
use Rattle.std.specs.{Prelude.{◌≡◌, ◌⊎◌, ℕ, ◌%◌, ◌^◌, ◌<◌, true, List, ◌++◌, Some, IfSome}, List.AllByRecursion}
use Rattle.mm_word.specs.declared.perm.Perm.TheVariants.{Eu, Ep}
use Rattle.mm_word.specs.{declared.word.{Word.{Word, TheVariants.{Int, Ptr}}, Cell.Cell}, Perm.allows}
use Rattle.mm_word.specs.{Pointer.{Pointer, Covers, enter_result}, Access.AccessValue}
use Rattle.mm_model.specs.{declared.{slot.Pending.Pending, event.Event.Event}, Memory.{Memory, cell_at}, Slot.Slot}
use Rattle.mm_model.specs.{State.{ThreadRow, State, slot_at, queue_at}, Image.{Image, start}, Spelling.IsImage}
use Rattle.mm_model.specs.{Fits.{IsState, Fits}, Turn.Turned, Run.{turn_of, after, run}}
use Rattle.mm_model.specs.Trace.{touches, group_in, done_entry, entries}
use Rattle.mm_model.specs.Reach.{Entries, Grants, CanWrite, Entries.{All, These}}

-- 1. Words that are granted.

-- the word is an integer, or a pointer that the group is granted
abbrev pub WordGranted : Image → Entries → ℕ → Word → Type 0
WordGranted i e g (Int bits) = Unit {0}
WordGranted i e g (Ptr q) = Grants i e g q

-- a slot's pointers, in registers, as instruction pointer and in pending loads, are granted to its group
pub record SlotGranted (i : Image) (e : Entries) (s : Slot) : Type 0 where
  pub registers : AllByRecursion (WordGranted i e s.group) s.regs
  pub ip : Grants i e s.group s.ip
  pub pending : AllByRecursion (λ (p : Pending). WordGranted i e s.group p.word) s.pending

-- an event's pointers are granted to a group
pub record EventGranted (i : Image) (e : Entries) (g : ℕ) (event : Event) : Type 0 where
  pub ip : Grants i e g event.ip
  pub address : WordGranted i e g event.addr_op
  pub value : WordGranted i e g event.value_op

-- the pointers of a slot, and of the events in its queue, are granted to its group
pub record RowGranted (i : Image) (e : Entries) (row : ThreadRow) : Type 0 where
  pub slot : SlotGranted i e row.slot
  pub events : AllByRecursion (EventGranted i e row.slot.group) row.queue

-- the pointer is granted to a group that can write the word
pub record IsStored (i : Image) (e : Entries) (w : ℕ) (q : Pointer) : Type 0 where
  pub group : ℕ
  pub granted : Grants i e group q
  pub writes : CanWrite i e group w

-- the image's cell at the word holds the pointer
pub record IsOwn (i : Image) (w : ℕ) (q : Pointer) : Type 0 where
  pub cell : Cell
  pub stands : cell_at i.memory w ≡ Some cell
  pub holds : cell.word ≡ Ptr q

-- a pointer in a cell is the image's own at that word, or granted to a group that can write there
abbrev pub CellGranted : Image → Entries → ℕ → Word → Type 0
CellGranted i e w (Int bits) = Unit {0}
CellGranted i e w (Ptr q) = IsOwn i w q ⊎ IsStored i e w q

abbrev pub CellsGranted : Image → Entries → Memory → Type 0
CellsGranted i e m = (w : ℕ) (c : Cell) → cell_at m w ≡ Some c → CellGranted i e w c.word

-- all words of a state are granted
pub record WordsGranted (i : Image) (e : Entries) (s : State) : Type 0 where
  pub rows : AllByRecursion (RowGranted i e) s.core.rows
  pub cells : CellsGranted i e s.memory

-- 2. The accesses, entries and changes of a turn.

-- a pointer that is granted to the group covers the word of an access, with the rights of its kind
pub record TouchGranted (i : Image) (e : Entries) (g : ℕ) (t : AccessValue) : Type 0 where
  pub by : Pointer
  pub granted : Grants i e g by
  pub right : allows by.perm t.kind ≡ true
  pub covers : Covers by t.addr
  pub aligned : t.addr % 8 ≡ 0
  pub below : t.addr < 2 ^ 54

-- the enter pointer of a done entry is granted to the group, and the slot goes on at its execute form
pub record EntryGranted (i : Image) (e : Entries) (t : Turned) (p : Pointer) : Type 0 where
  pub enters : (p.perm ≡ Eu) ⊎ (p.perm ≡ Ep)
  pub granted : Grants i e (group_in t) p
  pub slot : Slot
  pub stands : slot_at t.core t.step.slot ≡ Some slot
  pub goes_on : enter_result p ≡ Some slot.ip

-- the entries with further ones
abbrev pub with_entries : Entries → List (ℕ × Pointer) → Entries
with_entries All new = All
with_entries (These list) new = These (list ++ new)

-- what is granted of one turn: all words after it, with its entry, in a state that fits again; its accesses and its
-- entry; and each word at which it changes, adds or removes a cell
pub record StepGranted (i : Image) (e : Entries) (s : State) (n : ℕ) : Type 0 where
  pub state : IsState (after s n)
  pub fits : Fits i (after s n)
  pub words : WordsGranted i (with_entries e (done_entry (turn_of s n) (turn_of s n).step.entered)) (after s n)
  pub touched : AllByRecursion (TouchGranted i e (group_in (turn_of s n))) (touches (turn_of s n).step)
  pub entered : IfSome (turn_of s n).step.entered (EntryGranted i e (turn_of s n))
  pub changed : (w : ℕ) → (cell_at (after s n).memory w ≡ cell_at s.memory w) ⊎ CanWrite i e (group_in (turn_of s n)) w

-- 3. The laws.

-- one turn, of any item, in any state that fits the image and whose words are granted under any entries, is granted
abbrev pub GrantsStep : Type 0
GrantsStep = (i : Image) (e : Entries) (s : State) (n : ℕ) → IsImage i → IsState s → Fits i s → WordsGranted i e s
    → StepGranted i e s n

-- what holds of the state after a list of items, under the entries that were done in them, for any next item
pub record RunGranted (i : Image) (e : Entries) (s : State) : Type 0 where
  pub words : WordsGranted i e s
  pub next : (n : ℕ) → StepGranted i e s n

-- after every list of items the run is granted
abbrev pub GrantsHold : Type 0
GrantsHold = (i : Image) (items : List ℕ) → IsImage i
    → RunGranted i (These (entries (start i) items)) (run (start i) items)

-- in a state that fits its image and whose words are granted, an event is granted also to the group of the slot whose
-- event it is
abbrev pub EventsGranted : Type 0
EventsGranted =
    (i : Image) (e : Entries) (s : State) → IsImage i → IsState s → Fits i s → WordsGranted i e s → (h : ℕ)
    → AllByRecursion (λ (event : Event). (of : Slot) → slot_at s.core event.slot ≡ Some of
    → EventGranted i e of.group event) (queue_at s.core h)
