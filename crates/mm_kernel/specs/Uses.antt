-- How many threads a kernel has, and which words they read and write.
use Rattle.std.specs.Prelude.{◌≡◌, ℕ, ◌<◌, ◌≤◌, Bool, true, false, List, length, Contains, Some, slice_get}
use Rattle.mm_word.specs.declared.word.Cell.{Cell}
use Rattle.mm_isa.specs.declared.instr.Instr.{Instr}
use Rattle.mm_isa.specs.declared.instr.Instr.TheVariants as instr
use Rattle.mm_model.specs.{Memory.cell_at, Image.Image, Ask.load_kind, Counted.writes, Turn.instr_in}
use Rattle.mm_kernel.specs.Segments.{Segment, is_kept, lies_in}
use Rattle.mm_kernel.specs.declared.{form.Form.Form, thread.{Origin.Origin, Thread.Thread}}
use Rattle.mm_kernel.specs.declared.outcome.Outcome.TheVariants as outcome
use Rattle.mm_kernel.specs.{Facts.Fact.HasThread, Turns.outcomes, Derived.{Derived, Fetches}}

-- 1. How many threads there are.

-- no thread stands at two places of the list
abbrev pub AreDistinct : List Thread → Type 0
AreDistinct threads =
    (j k : ℕ) (t : Thread) → slice_get threads j ≡ Some t → slice_get threads k ≡ Some t → j ≡ k

-- more threads are derived than the limit
pub record HasMore (i : Image) (kept : List Segment) (limit : ℕ) : Type 0 where
  pub threads : List Thread
  pub distinct : AreDistinct threads
  pub derived : (t : Thread) → Contains threads t → Derived i kept (HasThread t)
  pub many : limit < length threads

-- no more threads are derived than the limit
pub record HasAtMost (i : Image) (kept : List Segment) (limit : ℕ) : Type 0 where
  pub threads : List Thread
  pub whole : (t : Thread) → Derived i kept (HasThread t) → Contains threads t
  pub few : length threads ≤ limit

-- 2. What a turn of a thread uses.

-- an instruction that loads, and sets the synchronisation bit of the word
abbrev pub sets_bit : Instr → Bool
sets_bit (instr.Ld rd ra pre post imm) = writes (load_kind post)
sets_bit _ = false

-- the instruction of a thread's turn sets the synchronisation bit of the word that it loads
pub record SetsBit (i : Image) (t : Thread) : Type 0 where
  pub word : ℕ
  pub cell : Cell
  pub instr : Instr
  pub fetches : Fetches t word
  pub at : cell_at i.memory word ≡ Some cell
  pub decodes : instr_in cell.word ≡ Some instr
  pub sets : sets_bit instr ≡ true

-- the turn of a thread may load from a part, and may store to it
pub record LoadsFrom (i : Image) (kept : List Segment) (t : Thread) (part : Segment) : Type 0 where
  pub reg : ℕ
  pub next : Thread
  pub comes : Contains (outcomes i kept t) (outcome.Loads part reg next)

pub record StoresTo (i : Image) (kept : List Segment) (t : Thread) (part : Segment) : Type 0 where
  pub form : Form
  pub comes : Contains (outcomes i kept t) (outcome.Stores part form)

-- the turn of a thread reads a word: it fetches it, or may load it
pub data Reads (i : Image) (kept : List Segment) (t : Thread) (w : ℕ) : Type 0 where
  fetched : Fetches t w → Reads i kept t w
  loaded : (part : Segment) → LoadsFrom i kept t part → lies_in w part ≡ true → Reads i kept t w

-- the turn of a thread writes a word: it may store to it, or load it and set its bit
pub data Writes (i : Image) (kept : List Segment) (t : Thread) (w : ℕ) : Type 0 where
  stored : (part : Segment) → StoresTo i kept t part → lies_in w part ≡ true → Writes i kept t w
  set : (part : Segment) → SetsBit i t → LoadsFrom i kept t part → lies_in w part ≡ true → Writes i kept t w

-- 3. What the threads of an origin use.

-- a thread of an origin uses a kept word of the image's pages in this way
pub record IsUsed (uses : Image → List Segment → Thread → ℕ → Type 0) (i : Image) (kept : List Segment) (from : Origin)
    (w : ℕ) : Type 0 where
  pub cell : Cell
  pub at : cell_at i.memory w ≡ Some cell
  pub of_kept : is_kept kept w ≡ true
  pub thread : Thread
  pub derived : Derived i kept (HasThread thread)
  pub origin : thread.origin ≡ from
  pub used : uses i kept thread w
