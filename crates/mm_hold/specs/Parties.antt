-- Sets of parties, and who passes on all that it holds to whom.
use Rattle.std.specs.Prelude.{◌≡◌, ◌⊎◌, ◌↔◌, ℕ, ◌<◌, true, false, List, Contains}
use Rattle.std.specs.Int.{bit_at}
use Rattle.mm_model.specs.{Slot.Slot, Image.Image, Turn.is_handler}
use Rattle.mm_flow.specs.Flow.{Has}
use Rattle.mm_kernel.specs.{Segments.Segment, Threads.is_kernel}
use Rattle.mm_confine.specs.declared.party.Party.{Party, TheVariants.{Group, KernelSlot}}
use Rattle.mm_confine.specs.Grants.{IsOf}
use Rattle.mm_hold.specs.declared.{parties.Parties.Parties, sharing.Sharing.Sharing, conduct.Conduct.Conduct}

-- 1. Sets.

-- a party is in a set
abbrev pub In : Party → Parties → Type 0
In (Group g) set = bit_at set.groups g ≡ 1
In (KernelSlot n) set = bit_at set.slots n ≡ 1

-- the set has exactly these parties
abbrev pub Is : Parties → (Party → Type 0) → Type 0
Is set what = (x : Party) → In x set ↔ what x

-- the number is one that a group or a slot can have
abbrev pub Small : Party → Type 0
Small (Group g) = g < 64
Small (KernelSlot n) = n < 64

abbrev pub IsGroup : Party → Type 0
IsGroup (Group g) = Unit {0}
IsGroup (KernelSlot n) = ⊥

-- 2. Who passes on to whom.

-- one party passes on to another
abbrev pub Shares : Sharing → Party → Party → Type 0
Shares s (Group h) (Group g) = Has s.groups_to_groups h g
Shares s (Group h) (KernelSlot n) = Has s.groups_to_slots h n
Shares s (KernelSlot m) (Group g) = Has s.slots_to_groups m g
Shares s (KernelSlot m) (KernelSlot n) = Has s.slots_to_slots m n

-- one of the parties of a set passes on to a party
pub record SharedBy (s : Sharing) (from : Parties) (x : Party) : Type 0 where
  pub by : Party
  pub among : In by from
  pub shares : Shares s by x

-- whoever passed on still does, and also these
abbrev pub Adds : (Party → Party → Type 0) → Sharing → Sharing → Type 0
Adds more old new = (y x : Party) → Shares new y x ↔ (Shares old y x ⊎ more y x)

-- each party of one set, to each of the other
abbrev pub Across : Parties → Parties → Party → Party → Type 0
Across from to y x = In y from × In x to

-- in one array: each of a mask passes on to each of another
abbrev pub AddsBits : List ℕ → ℕ → ℕ → List ℕ → Type 0
AddsBits old from to new = (h g : ℕ) → Has new h g ↔ (Has old h g ⊎ ((bit_at from h ≡ 1) × (bit_at to g ≡ 1)))

-- one of a mask passes on to this
pub record SharesBit (mask : ℕ) (sharing : List ℕ) (g : ℕ) : Type 0 where
  pub by : ℕ
  pub has : bit_at mask by ≡ 1
  pub shares : Has sharing by g

-- 3. Slots and what they serve.

-- the slot is of the party
pub record IsPartyOf (i : Image) (kept : List Segment) (s : Slot) (x : Party) : Type 0 where
  pub of : IsOf i kept s x
  pub small : Small x

-- the slot is of the party, and has its handler in the slot of a number
pub record ServedPartyOf (i : Image) (kept : List Segment) (s : Slot) (n : ℕ) (x : Party) : Type 0 where
  pub handled : is_handler n s.handler ≡ true
  pub party : IsPartyOf i kept s x

-- one of the slots is of the party, and has its handler in the slot of a number
pub record ServedParty (i : Image) (kept : List Segment) (slots : List Slot) (n : ℕ) (x : Party) : Type 0 where
  pub slot : Slot
  pub inside : Contains slots slot
  pub served : ServedPartyOf i kept slot n x

-- a handler that is a caller, and the groups that it serves
pub data PassesByCaller (i : Image) (kept : List Segment) (s : Slot) (y x : Party) : Type 0 where
  serves : y ≡ Group s.group → Small y → IsGroup x → ServedParty i kept i.slots s.number x → PassesByCaller i kept s y x
  is_served : IsGroup y → ServedParty i kept i.slots s.number y → x ≡ Group s.group → Small x → PassesByCaller i kept s y x

-- a slot of the kernel: with its group if it goes on as a caller; and with what it serves
pub data PassesByKernel (i : Image) (kept : List Segment) (c : Conduct) (s : Slot) (y x : Party) : Type 0 where
  freed : bit_at c.freed s.number ≡ 1 → y ≡ KernelSlot s.number → Small y → x ≡ Group s.group → Small x
      → PassesByKernel i kept c s y x
  gives : bit_at c.givers s.number ≡ 1 → y ≡ KernelSlot s.number → Small y → ServedParty i kept i.slots s.number x
      → PassesByKernel i kept c s y x
  sees : bit_at c.seeing s.number ≡ 1 → ServedParty i kept i.slots s.number y → x ≡ KernelSlot s.number → Small x
      → PassesByKernel i kept c s y x

pub data PassesBySlot (i : Image) (kept : List Segment) (c : Conduct) (s : Slot) (y x : Party) : Type 0 where
  of_kernel : is_kernel i kept s.number ≡ true → PassesByKernel i kept c s y x → PassesBySlot i kept c s y x
  of_caller : is_kernel i kept s.number ≡ false → PassesByCaller i kept s y x → PassesBySlot i kept c s y x

-- one of the slots passes on, or is passed on to
pub record PassesAlways (i : Image) (kept : List Segment) (c : Conduct) (slots : List Slot) (y x : Party) : Type 0 where
  pub slot : Slot
  pub inside : Contains slots slot
  pub passes : PassesBySlot i kept c slot y x
