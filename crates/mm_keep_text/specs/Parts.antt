-- Which parts of memory threads read and write, each with the numbers of the thread's origin.
use Rattle.std.specs.Prelude.{◌≡◌, ◌↔◌, ℕ, ◌+◌, ◌*◌, ◌%◌, ◌<◌, Bool, true, ◌==◌, if◌then◌else◌, List, Contains, Some}
use Rattle.std.specs.declared.cmp.Ordering.{Ordering}
use Rattle.std.specs.{List.list_any, Ordering.{nat_cmp, ordering_then}}
use Rattle.mm_word.specs.{declared.word.Cell.Cell, Pointer.{bits_of, pointer_of}}
use Rattle.mm_model.specs.{Memory.cell_at, Image.Image}
use Rattle.mm_kernel.specs.Segments.{Segment, is_kept, lies_in}
use Rattle.mm_kernel.specs.declared.{form.Form.Form, outcome.Outcome.Outcome}
use Rattle.mm_kernel.specs.declared.thread.{Origin.{Origin, TheVariants.{Door, Slot as OfSlot}}, Thread.Thread}
use Rattle.mm_kernel.specs.{Derived.Fetches, Uses.{LoadsFrom, StoresTo, SetsBit}}
use Rattle.mm_kernel.specs.declared.outcome.Outcome.TheVariants as outcome

-- 1. Sets.

-- the keys are those of which something holds
pub record AreAll {K : Type 0} (what : K → Type 0) (keys : List K) : Type 0 where
  pub each : (key : K) → Contains keys key ↔ what key

-- 2. Origins as numbers.

-- doors come before slots
abbrev pub origin_numbers : Origin → ℕ × ℕ
origin_numbers (Door p) = (0, bits_of p)
origin_numbers (OfSlot n) = (1, n)

abbrev pub origin_from : ℕ × ℕ → Origin
origin_from n = if n.0 == 0 then Door (pointer_of n.1) else OfSlot n.1

-- 3. Uses.

-- the numbers of an origin, and a part that a thread from it uses
abbrev pub Use : Type 0
Use = (ℕ × ℕ) × Segment

-- the order of uses
abbrev pub order : Use → Use → Ordering
order a b =
    ordering_then (ordering_then (nat_cmp a.0.0 b.0.0) (nat_cmp a.0.1 b.0.1))
    (ordering_then (nat_cmp a.1.0 b.1.0) (nat_cmp a.1.1 b.1.1))

-- an outcome loads from a part, or stores to it
pub record IsLoad (o : Outcome) (part : Segment) : Type 0 where
  pub reg : ℕ
  pub next : Thread
  pub is : o ≡ outcome.Loads part reg next

pub record IsStore (o : Outcome) (part : Segment) : Type 0 where
  pub form : Form
  pub is : o ≡ outcome.Stores part form

-- one of the outcomes uses a part in this way
pub record SomeIs (uses : Outcome → Segment → Type 0) (outcomes : List Outcome) (part : Segment) : Type 0 where
  pub outcome : Outcome
  pub inside : Contains outcomes outcome
  pub is : uses outcome part

-- the turn of a thread fetches a word, which is the part
pub record IsFetch (t : Thread) (part : Segment) : Type 0 where
  pub word : ℕ
  pub fetches : Fetches t word
  pub aligned : word % 8 ≡ 0
  pub is : part ≡ (word, 3)

-- the turn of a thread reads from a part: the word that it fetches, or one from which it may load
pub data ReadsPart (i : Image) (kept : List Segment) (t : Thread) (part : Segment) : Type 0 where
  fetched : IsFetch t part → ReadsPart i kept t part
  loaded : LoadsFrom i kept t part → ReadsPart i kept t part

-- the turn of a thread writes to a part: it may store there, or load from there and set the bit
pub data WritesPart (i : Image) (kept : List Segment) (t : Thread) (part : Segment) : Type 0 where
  stored : StoresTo i kept t part → WritesPart i kept t part
  set : SetsBit i t → LoadsFrom i kept t part → WritesPart i kept t part

-- the use is one of a thread
pub record UsedBy (uses : Thread → Segment → Type 0) (t : Thread) (u : Use) : Type 0 where
  pub numbers : origin_numbers t.origin ≡ u.0
  pub origin : origin_from u.0 ≡ t.origin
  pub part : uses t u.1

-- the use is one of some of the threads
pub record SomeUses (uses : Thread → Segment → Type 0) (threads : List Thread) (u : Use) : Type 0 where
  pub thread : Thread
  pub inside : Contains threads thread
  pub used : UsedBy uses thread u

-- 4. Words.

-- a kept word of the image's pages
pub record IsHeld (i : Image) (kept : List Segment) (w : ℕ) : Type 0 where
  pub cell : Cell
  pub at : cell_at i.memory w ≡ Some cell
  pub of_kept : is_kept kept w ≡ true

-- such a word is at one of the first places of a page
pub record IsHeldIn (i : Image) (kept : List Segment) (page places w : ℕ) : Type 0 where
  pub place : ℕ
  pub low : place < places
  pub at : page * 4096 + 8 * place ≡ w
  pub held : IsHeld i kept w

-- such a word is on one of the pages
pub record InPages (i : Image) (kept : List Segment) (pages : List (ℕ × List Cell)) (w : ℕ) : Type 0 where
  pub page : ℕ × List Cell
  pub inside : Contains pages page
  pub held : IsHeldIn i kept page.0 512 w

-- one of the parts covers a word
abbrev pub covers : List Segment → ℕ → Bool
covers parts w = list_any (lies_in w) parts

-- one of the words is covered by one of the parts
pub record IsIn (words : List ℕ) (parts : List Segment) (w : ℕ) : Type 0 where
  pub word : Contains words w
  pub covered : covers parts w ≡ true

-- some of the threads fetches a word
pub record SomeFetches (threads : List Thread) (w : ℕ) : Type 0 where
  pub thread : Thread
  pub inside : Contains threads thread
  pub fetches : Fetches thread w
