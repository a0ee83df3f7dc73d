-- What the deeds of threads mean, and sets of deeds.
use Rattle.std.specs.Prelude.{◌≡◌, ◌⊎◌, ◌↔◌, ℕ, ◌<◌, ◌==◌, true, List, [], ◌∷◌, Contains, Some, if◌then◌else◌}
use Rattle.std.specs.{Int.bit_at, List.flat_map}
use Rattle.mm_word.specs.declared.word.Cell.{Cell}
use Rattle.mm_word.specs.Pointer.{Pointer as PointerValue, SpellsPointer, bits_of, pointer_of}
use Rattle.mm_model.specs.{Memory.cell_at, Image.Image}
use Rattle.mm_kernel.specs.Segments.{Segment, is_kept, lies_in, is_door}
use Rattle.mm_kernel.specs.declared.{form.Form.{Form, TheVariants.Pointer}}
use Rattle.mm_kernel.specs.declared.thread.{Origin.{Origin, TheVariants.{Door, Slot as OfSlot}}, Thread.Thread}
use Rattle.mm_kernel.specs.{Facts.Fact.HasForm, Derived.{Derived, HasFirst}}
use Rattle.mm_keep.specs.{Searching.IsExact}
use Rattle.mm_confine.specs.{Taken.TakenUp, Conduct.{carries, HasExactly, IsPlain, ComesTo, GoesOn, LetsOut, SeesServed}}
use Rattle.mm_hold.specs.{declared.{deed.Deed.Deed, conduct.Conduct.Conduct}, Deeds.{Findings, carrying_in}}
use Rattle.mm_hold.specs.declared.deed.Deed.TheVariants as deed
use Rattle.mm_kernel.specs.declared.fact.Leak.TheVariants as leak
use Rattle.mm_kernel.specs.declared.outcome.Outcome.TheVariants as outcome

-- 1. What a deed means.

-- threads of an origin have a pointer that is no door, or let a door out
pub data HasOrLets (i : Image) (kept : List Segment) (from : Origin) (q : PointerValue) : Type 0 where
  has : (t : Thread) → TakenUp i kept t → t.origin ≡ from → HasExactly t q → IsPlain kept q → HasOrLets i kept from q
  lets : is_door kept q ≡ true → LetsOut i kept from q → HasOrLets i kept from q

-- a kept word of the image's pages
pub record IsHeld (i : Image) (kept : List Segment) (w : ℕ) : Type 0 where
  pub cell : Cell
  pub at : cell_at i.memory w ≡ Some cell
  pub of_kept : is_kept kept w ≡ true

-- a kept word gets a form that carries
pub record IsCarrying (i : Image) (kept : List Segment) (w : ℕ) : Type 0 where
  pub form : Form
  pub held : Derived i kept (HasForm w form)
  pub carried : carries form ≡ true

-- threads of an origin store a form that carries to a kept word
pub record StoresInside (i : Image) (kept : List Segment) (from : Origin) (w : ℕ) : Type 0 where
  pub of_image : IsHeld i kept w
  pub part : Segment
  pub form : Form
  pub stores : ComesTo i kept from (outcome.Stores part form)
  pub carried : carries form ≡ true
  pub here : lies_in w part ≡ true

-- threads of an origin load a kept word that gets a form that carries
pub record LoadsInside (i : Image) (kept : List Segment) (from : Origin) (w : ℕ) : Type 0 where
  pub gets : IsCarrying i kept w
  pub part : Segment
  pub reg : ℕ
  pub next : Thread
  pub loads : ComesTo i kept from (outcome.Loads part reg next)
  pub here : lies_in w part ≡ true

-- threads of a slot store a form to a word that is not kept
pub record Sends (i : Image) (kept : List Segment) (n : ℕ) (form : Form) : Type 0 where
  pub at : ℕ
  pub reg : ℕ
  pub stores : ComesTo i kept (OfSlot n) (outcome.HandsOut form (leak.Store at reg form))

-- threads of a slot write a form into a register of what the slot serves
pub record Gives (i : Image) (kept : List Segment) (n : ℕ) (form : Form) : Type 0 where
  pub reg : ℕ
  pub writes : ComesTo i kept (OfSlot n) (outcome.WritesServed reg form)

-- some form that carries is one of these
pub record SomeCarries (what : Form → Type 0) : Type 0 where
  pub form : Form
  pub carried : carries form ≡ true
  pub is : what form

abbrev pub Means : Image → List Segment → Deed → Type 0
Means i kept (deed.Has from q) = HasOrLets i kept from q
Means i kept (deed.Stored w from) = StoresInside i kept from w
Means i kept (deed.Loaded w from) = LoadsInside i kept from w
Means i kept (deed.Sent n q) = Sends i kept n (Pointer q)
Means i kept (deed.Given n q) = Gives i kept n (Pointer q)
Means i kept (deed.Sends n) = SomeCarries (Sends i kept n)
Means i kept (deed.Gives n) = SomeCarries (Gives i kept n)
Means i kept (deed.Sees n) = SeesServed i kept n
Means i kept (deed.GoesOn n) = (t : Thread) × GoesOn i kept (OfSlot n) t

-- 2. What is looked at for each thread.

pub record AreFindings (i : Image) (kept : List Segment) (f : Findings) : Type 0 where
  pub exact : IsExact i kept f.tables
  pub first : (w : ℕ) (form : Form) → Contains f.first (w, form) ↔ HasFirst i kept w form
  pub carrying : (w : ℕ) → Contains f.carrying w ↔ Contains (flat_map carrying_in f.tables.stored) w

-- a list has exactly the deeds of a kernel
pub record AreDeeds (i : Image) (kept : List Segment) (deeds : List Deed) : Type 0 where
  pub each : (d : Deed) → Contains deeds d ↔ Means i kept d

-- 3. Sets.

-- the keys are those of which something holds
pub record AreAll {K : Type 0} (what : K → Type 0) (keys : List K) : Type 0 where
  pub each : (key : K) → Contains keys key ↔ what key

-- 4. Origins and deeds as numbers.

-- doors come before slots
abbrev pub origin_numbers : Origin → ℕ × ℕ
origin_numbers (Door p) = (0, bits_of p)
origin_numbers (OfSlot n) = (1, n)

abbrev pub origin_from : ℕ × ℕ → Origin
origin_from n = if n.0 == 0 then Door (pointer_of n.1) else OfSlot n.1

-- the key of a deed in the set of its kind
abbrev pub has_in : Deed → List ((ℕ × ℕ) × ℕ)
has_in (deed.Has from p) = (origin_numbers from, bits_of p) ∷ []
has_in _ = []

abbrev pub stored_by : Deed → List (ℕ × (ℕ × ℕ))
stored_by (deed.Stored w from) = (w, origin_numbers from) ∷ []
stored_by _ = []

abbrev pub loaded_by : Deed → List (ℕ × (ℕ × ℕ))
loaded_by (deed.Loaded w from) = (w, origin_numbers from) ∷ []
loaded_by _ = []

abbrev pub sent_in : Deed → List (ℕ × ℕ)
sent_in (deed.Sent n p) = (n, bits_of p) ∷ []
sent_in _ = []

abbrev pub given_in : Deed → List (ℕ × ℕ)
given_in (deed.Given n p) = (n, bits_of p) ∷ []
given_in _ = []

abbrev pub sends_in : Deed → List ℕ
sends_in (deed.Sends n) = n ∷ []
sends_in _ = []

abbrev pub gives_in : Deed → List ℕ
gives_in (deed.Gives n) = n ∷ []
gives_in _ = []

abbrev pub sees_in : Deed → List ℕ
sees_in (deed.Sees n) = n ∷ []
sees_in _ = []

abbrev pub goes_in : Deed → List ℕ
goes_in (deed.GoesOn n) = n ∷ []
goes_in _ = []

-- a pointer's bits spell it
pub record IsSpelled (p : PointerValue) : Type 0 where
  pub spells : SpellsPointer (bits_of p)
  pub again : pointer_of (bits_of p) ≡ p

-- what a deed has can be read from its numbers
abbrev pub IsRead : Deed → Type 0
IsRead (deed.Has from p) = (origin_from (origin_numbers from) ≡ from) × IsSpelled p
IsRead (deed.Stored w from) = origin_from (origin_numbers from) ≡ from
IsRead (deed.Loaded w from) = origin_from (origin_numbers from) ≡ from
IsRead (deed.Sent n p) = IsSpelled p
IsRead (deed.Given n p) = IsSpelled p
IsRead _ = Unit {0}

-- 5. What a conduct has noted.

-- the keys of these deeds came to those that were there
abbrev pub Grown : {K : Type 0} → (Deed → List K) → List Deed → List K → List K → Type 0
Grown of more old new = AreAll (λ e. Contains old e ⊎ Contains (flat_map of more) e) new

-- the slots of these deeds came to those of a mask
abbrev pub Marks : (Deed → List ℕ) → List Deed → ℕ → ℕ → Type 0
Marks of more old new =
    (n : ℕ) → (bit_at new n ≡ 1) ↔ ((bit_at old n ≡ 1) ⊎ ((n < 64) × Contains (flat_map of more) n))

pub record Notes (more : List Deed) (old new : Conduct) : Type 0 where
  pub has : Grown has_in more old.has.keys new.has.keys
  pub stored : Grown stored_by more old.stored.keys new.stored.keys
  pub loaded : Grown loaded_by more old.loaded.keys new.loaded.keys
  pub sent : Grown sent_in more old.sent.keys new.sent.keys
  pub given : Grown given_in more old.given.keys new.given.keys
  pub senders : Marks sends_in more old.senders new.senders
  pub givers : Marks gives_in more old.givers new.givers
  pub seeing : Marks sees_in more old.seeing new.seeing
  pub freed : Marks goes_in more old.freed new.freed
  pub read : (d : Deed) → Contains more d → IsRead d

-- nothing was noted
pub record IsNone (c : Conduct) : Type 0 where
  pub has : c.has.keys ≡ []
  pub stored : c.stored.keys ≡ []
  pub loaded : c.loaded.keys ≡ []
  pub sent : c.sent.keys ≡ []
  pub given : c.given.keys ≡ []
  pub senders : c.senders ≡ 0
  pub givers : c.givers ≡ 0
  pub seeing : c.seeing ≡ 0
  pub freed : c.freed ≡ 0

-- some deed of a kernel has this key
pub record SomeDeed {K : Type 0} (i : Image) (kept : List Segment) (of : Deed → List K) (e : K) : Type 0 where
  pub deed : Deed
  pub means : Means i kept deed
  pub has : Contains (of deed) e

abbrev pub MarksAll : Image → List Segment → (Deed → List ℕ) → ℕ → Type 0
MarksAll i kept of mask = (n : ℕ) → (bit_at mask n ≡ 1) ↔ ((n < 64) × SomeDeed i kept of n)

-- the conduct has exactly the deeds of a kernel
pub record AreConduct (i : Image) (kept : List Segment) (c : Conduct) : Type 0 where
  pub has : AreAll (SomeDeed i kept has_in) c.has.keys
  pub stored : AreAll (SomeDeed i kept stored_by) c.stored.keys
  pub loaded : AreAll (SomeDeed i kept loaded_by) c.loaded.keys
  pub sent : AreAll (SomeDeed i kept sent_in) c.sent.keys
  pub given : AreAll (SomeDeed i kept given_in) c.given.keys
  pub senders : MarksAll i kept sends_in c.senders
  pub givers : MarksAll i kept gives_in c.givers
  pub seeing : MarksAll i kept sees_in c.seeing
  pub freed : MarksAll i kept goes_in c.freed
  pub read : (d : Deed) → Means i kept d → IsRead d

-- the conduct has exactly these deeds
pub record NotesFrom (deeds : List Deed) (c : Conduct) : Type 0 where
  pub none : Conduct
  pub is_none : IsNone none
  pub notes : Notes deeds none c
