-- A kernel that keeps its segments keeps them in every run of every variant.
use Rattle.std.specs.Prelude.{◌≡◌, ℕ, true, false, Bool, List, Option, Some, None}
use Rattle.std.specs.List.{AllByRecursion}
use Rattle.mm_word.specs.{declared.word.{Word.{Word, TheVariants.Ptr}, Cell.Cell}, Access.AccessValue}
use Rattle.mm_model.specs.declared.slot.{SlotState.{SlotState, TheVariants.{Running, Halted}}, Pending.Pending}
use Rattle.mm_model.specs.{declared.event.Event.Event, Memory.cell_at, Slot.Slot, State.{ThreadRow, State}}
use Rattle.mm_model.specs.{Image.{Image, start}, Spelling.IsImage, Turn.Turned, Run.{turn_of, run}, Trace.touches}
use Rattle.mm_kernel.specs.{Segments.{Segment, is_kept, is_fixed}, declared.{form.Form.Form, thread.Thread.Thread}}
use Rattle.mm_kernel.specs.{Forms.Stands, Threads.is_kernel, Facts.Fact.{HasThread, HasForm}}
use Rattle.mm_kernel.specs.{Derived.{Derived, IsCode, Keeps}, Variants.{IsShared, Variant}}

-- 1. What no caller gets.

-- the accesses of a turn that fetches a code word of the kernel may be on kept words, and no others
abbrev pub FetchesCode : Image → List Segment → Turned → Type 0
FetchesCode i kept t = (f : AccessValue) × (t.step.fetched ≡ Some f) × IsCode i kept f.addr

abbrev pub KeptByCode : Image → List Segment → Turned → AccessValue → Type 0
KeptByCode i kept t a = is_kept kept a.addr ≡ true → FetchesCode i kept t

-- the words of a slot, in registers and in pending loads, are shared
pub record SlotShares (i : Image) (kept : List Segment) (s : Slot) : Type 0 where
  pub registers : AllByRecursion (IsShared i kept) s.regs
  pub pending : AllByRecursion (λ (p : Pending). IsShared i kept p.word) s.pending

-- the words of an event are shared
pub record EventShares (i : Image) (kept : List Segment) (e : Event) : Type 0 where
  pub ip : IsShared i kept (Ptr e.ip)
  pub address : IsShared i kept e.addr_op
  pub value : IsShared i kept e.value_op

-- the number is of a slot of the kernel
abbrev pub is_of_kernel : Image → List Segment → Option ℕ → Bool
is_of_kernel i kept None = false
is_of_kernel i kept (Some n) = is_kernel i kept n

-- a slot that others run, or serve: at an instruction pointer that no thread of the kernel has, or stopped by a fault
-- with a handler that is no slot of the kernel
abbrev pub ServedByOthers : Image → List Segment → Slot → SlotState → Type 0
ServedByOthers i kept s Running = (t : Thread) → Derived i kept (HasThread t) → t.ip ≡ s.ip → ⊥
ServedByOthers i kept s (Halted cause) = ⊥
ServedByOthers i kept s _ = is_of_kernel i kept s.handler ≡ false

pub record RowKept (i : Image) (kept : List Segment) (row : ThreadRow) : Type 0 where
  pub slot : ServedByOthers i kept row.slot row.slot.state → SlotShares i kept row.slot
  pub queue : is_kernel i kept row.slot.number ≡ false → AllByRecursion (EventShares i kept) row.queue

-- one of the forms derived for a kept word stands for the word in its cell
pub record HasFormFor (i : Image) (kept : List Segment) (w : ℕ) (word : Word) : Type 0 where
  pub form : Form
  pub derived : Derived i kept (HasForm w form)
  pub stands : Stands kept form word

-- what holds of the state after a list of items, and of the turn of any next item
pub record StateKept (i : Image) (kept : List Segment) (j : Image) (s : State) : Type 0 where
  pub accesses : (n : ℕ) → AllByRecursion (KeptByCode i kept (turn_of s n)) (touches (turn_of s n).step)
  pub rows : AllByRecursion (RowKept i kept) s.core.rows
  pub kept_cells : (w : ℕ) (c : Cell) → cell_at s.memory w ≡ Some c → is_kept kept w ≡ true → HasFormFor i kept w c.word
  pub other_cells : (w : ℕ) (c : Cell) → cell_at s.memory w ≡ Some c → is_kept kept w ≡ false → IsShared i kept c.word
  pub fixed_cells : (w : ℕ) (c : Cell) → cell_at i.memory w ≡ Some c → is_fixed i w ≡ true
      → cell_at s.memory w ≡ cell_at j.memory w

-- 2. The law.

-- A kernel that keeps its segments keeps them after every list of items, in every variant of its image.
abbrev pub KernelsKeep : Type 0
KernelsKeep = (i j : Image) (kept : List Segment) (items : List ℕ) → IsImage i → IsImage j
    → Keeps i kept → Variant i kept j → StateKept i kept j (run (start j) items)

-- An image that keeps its segments is a variant of itself.
abbrev pub KeepersAreVariants : Type 0
KeepersAreVariants = (i : Image) (kept : List Segment) → IsImage i → Keeps i kept → Variant i kept i
