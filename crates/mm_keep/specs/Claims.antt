-- What a search may have found, what it means, and where it stands in the tables.
use Rattle.std.specs.Prelude.{◌≡◌, ◌⊎◌, ℕ, true, List, [], ◌∷◌, ◌++◌, length, Contains, Some}
use Rattle.mm_word.specs.{Pointer.Pointer, declared.word.Cell.Cell}
use Rattle.mm_isa.specs.declared.instr.How.{How}
use Rattle.mm_model.specs.{Memory.cell_at, Image.Image}
use Rattle.mm_kernel.specs.Segments.{Segment, is_kept, lies_in}
use Rattle.mm_kernel.specs.declared.{fact.{Leak.Leak, Handling.Handling}, form.Form.Form, outcome.Outcome.Outcome}
use Rattle.mm_kernel.specs.declared.thread.{Origin.{TheVariants.{Slot as OfSlot}}, Thread.Thread}
use Rattle.mm_kernel.specs.Facts.{Fact, Fact.{HasThread, HasForm, HasDoor, HasEvent, HasFaulted, HasLeak}}
use Rattle.mm_kernel.specs.{Turns.outcomes, Derived.{Derived, HasFirst}}
use Rattle.mm_kernel.specs.declared.outcome.Outcome.TheVariants as outcome

-- 1. Claims.

-- what a search puts into its tables: facts, and that some thread of a slot resumes, or writes, what the slot serves
pub data Claim : Type 0 where
  IsFact : (fact : Fact) → Claim
  SomeResumes : (slot : ℕ) (how : How) → Claim
  SomeWrites : (slot reg : ℕ) (form : Form) → Claim

-- a derived thread of a slot has this outcome
pub record SomeComesTo (i : Image) (kept : List Segment) (slot : ℕ) (o : Outcome) : Type 0 where
  pub thread : Thread
  pub derived : Derived i kept (HasThread thread)
  pub origin : thread.origin ≡ OfSlot slot
  pub comes : Contains (outcomes i kept thread) o

abbrev pub Means : Image → List Segment → Claim → Type 0
Means i kept (IsFact fact) = Derived i kept fact
Means i kept (SomeResumes slot how) = SomeComesTo i kept slot (outcome.Resumes how)
Means i kept (SomeWrites slot reg form) = SomeComesTo i kept slot (outcome.WritesServed reg form)

-- 2. The tables.

pub record Tables : Type 0 where
  pub threads : List Thread
  pub doors : List Pointer
  pub leaks : List Leak
  -- forms of kept words, beside those that they have from the start
  pub stored : List (ℕ × Form)
  pub events : List (ℕ × Handling)
  pub faulted : List (ℕ × Thread)
  pub resumes : List (ℕ × How)
  pub writes : List (ℕ × ℕ × Form)

-- a kept word of the image's pages that lies in a part
pub record IsReached (i : Image) (kept : List Segment) (part : Segment) (w : ℕ) : Type 0 where
  pub cell : Cell
  pub at : cell_at i.memory w ≡ Some cell
  pub of_kept : is_kept kept w ≡ true
  pub inside : lies_in w part ≡ true

abbrev pub HoldsFact : Image → List Segment → Tables → Fact → Type 0
HoldsFact i kept t (HasThread thread) = Contains t.threads thread
HoldsFact i kept t (HasForm w form) = HasFirst i kept w form ⊎ Contains t.stored (w, form)
HoldsFact i kept t (HasDoor door) = Contains t.doors door
HoldsFact i kept t (HasEvent h event) = Contains t.events (h, event)
HoldsFact i kept t (HasFaulted h thread) = Contains t.faulted (h, thread)
HoldsFact i kept t (HasLeak leak) = Contains t.leaks leak

abbrev pub Holds : Image → List Segment → Tables → Claim → Type 0
Holds i kept t (IsFact fact) = HoldsFact i kept t fact
Holds i kept t (SomeResumes slot how) = Contains t.resumes (slot, how)
Holds i kept t (SomeWrites slot reg form) = Contains t.writes (slot, reg, form)

-- all that the tables hold is derived
pub record IsSound (i : Image) (kept : List Segment) (t : Tables) : Type 0 where
  pub means : (claim : Claim) → Holds i kept t claim → Means i kept claim

-- 3. Growth.

-- a list that begins with another
pub record Begins {A : Type 0} (old new : List A) : Type 0 where
  pub more : List A
  pub whole : new ≡ old ++ more

-- tables only grow
pub record Grows (old new : Tables) : Type 0 where
  pub threads : Begins old.threads new.threads
  pub doors : Begins old.doors new.doors
  pub leaks : Begins old.leaks new.leaks
  pub stored : Begins old.stored new.stored
  pub events : Begins old.events new.events
  pub faulted : Begins old.faulted new.faulted
  pub resumes : Begins old.resumes new.resumes
  pub writes : Begins old.writes new.writes

-- Claims were added: afterwards the tables hold each of them and all that they held, and stay sound if each is true.
pub record Adds (i : Image) (kept : List Segment) (claims : Claim → Type 0) (old new : Tables) : Type 0 where
  pub grows : Grows old new
  pub holds : (claim : Claim) → claims claim → Holds i kept new claim
  pub sound : IsSound i kept old → ((claim : Claim) → claims claim → Means i kept claim) → IsSound i kept new

-- the claims that are the facts of a list
abbrev pub Facts : List Fact → Claim → Type 0
Facts facts (IsFact fact) = Contains facts fact
Facts facts _ = ⊥

-- how much there is in each table
abbrev pub sizes_of : Tables → List ℕ
sizes_of t =
    length t.threads ∷ length t.doors ∷ length t.leaks ∷ length t.stored ∷ length t.events ∷ length t.faulted
    ∷ length t.resumes ∷ length t.writes ∷ []

-- one claim alone
abbrev pub Only : Claim → Claim → Type 0
Only claim other = claim ≡ other

-- empty tables
abbrev pub nothing : Tables
nothing = record {
  threads = [];
  doors = [];
  leaks = [];
  stored = [];
  events = [];
  faulted = [];
  resumes = [];
  writes = [];
}

abbrev pub AddsFacts : Image → List Segment → List Fact → Tables → Tables → Type 0
AddsFacts i kept facts old new = Adds i kept (Facts facts) old new
