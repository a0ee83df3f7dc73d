-- What an image is, and the numbers that its file has for parts of it.
use Rattle.std.specs.Prelude.{◌≡◌, ◌≢◌, ℕ, zero, suc, ◌<◌, ◌≤◌, Bool, true, false, not, ◌||◌, ◌==◌, if◌then◌else◌, List}
use Rattle.std.specs.Prelude.{[], ◌∷◌, map, length, take, drop, Option, Some, None, IfSome, ◌⊎◌}
use Rattle.std.specs.List.{list_any, AllByRecursion, Sorted.IsStrictlyIncreasing}
use Rattle.mm_word.specs.{Perm.can_fetch, Pointer.IsWellFormed, Word.IsWord, declared.word.Cell.Cell}
use Rattle.mm_model.specs.{declared.slot.SlotState.{SlotState, TheVariants.{Running, Halted}}, Flags.number_of_flags}
use Rattle.mm_model.specs.{Memory.IsPaged, Slot.Slot, Image.{Image, slot_limit, frame_limit, none_empty}}

-- 1. What an image has to be.

-- a slot of an image runs, or is halted without a cause
abbrev pub Begins : SlotState → Type 0
Begins Running = Unit {0}
Begins (Halted None) = Unit {0}
Begins _ = ⊥

-- the numbers of slots
abbrev pub numbers_of : List Slot → List ℕ
numbers_of slots = map (λ s. s.number) slots

-- a slot of the list other than n has the number h
abbrev pub IsOther : List Slot → ℕ → ℕ → Type 0
IsOther slots n h = (h ≢ n) × ((s : Slot) × Rattle.std.specs.Prelude.Contains slots s × (s.number ≡ h))

-- a slot of the list has this number
abbrev pub has_number : List Slot → ℕ → Bool
has_number slots n = list_any (λ s. s.number == n) slots

-- the handler is the slot itself or no slot of the list
abbrev pub is_bad_handler : List Slot → Slot → Bool
is_bad_handler slots s = elim s.handler [ None ↦ false | Some h ↦ h == s.number || not (has_number slots h) ]

-- a slot of an image with these slots and this limit of numbers
pub record IsFresh (limit : ℕ) (slots : List Slot) (s : Slot) : Type 0 where
  pub number : s.number < limit
  pub group : s.group < limit
  pub handler : IfSome s.handler (IsOther slots s.number)
  pub begins : Begins s.state
  pub executable : can_fetch s.ip.perm ≡ true
  pub ip : IsWellFormed s.ip
  pub registers : length s.regs ≡ 16
  pub words : AllByRecursion IsWord s.regs
  pub past : s.past ≡ false
  pub turns : s.turns ≡ 0
  pub empty : s.empty ≡ none_empty
  pub pending : s.pending ≡ []

-- each cell of each page holds a word
abbrev pub HoldsWords : ℕ × List Cell → Type 0
HoldsWords page = AllByRecursion (λ (c : Cell). IsWord c.word) page.1

pub record IsImage (i : Image) : Type 0 where
  pub version : (i.version ≡ 1) ⊎ (i.version ≡ 2)
  pub mode : i.version ≡ 1 → i.split ≡ false
  pub some_slots : 1 ≤ length i.slots
  pub few_slots : length i.slots ≤ slot_limit i.version
  pub rising : IsStrictlyIncreasing (numbers_of i.slots)
  pub fresh : AllByRecursion (IsFresh (slot_limit i.version) i.slots) i.slots
  pub some_frames : 1 ≤ i.memory.frames
  pub few_frames : i.memory.frames ≤ frame_limit i.version
  pub paged : IsPaged i.memory
  pub words : AllByRecursion HoldsWords i.memory.pages

-- 2. The numbers in the file of an image.

abbrev pub mode_of : Bool → ℕ
mode_of split = if split then 1 else 0

abbrev pub handler_byte : Option ℕ → ℕ
handler_byte None = 255
handler_byte (Some h) = h

abbrev pub state_byte : SlotState → ℕ
state_byte Running = 0
state_byte _ = 1

-- `count` bytes of eight flags each, the first flag lowest
abbrev pub bitmap : ℕ → List Bool → List ℕ
bitmap zero flags = []
bitmap (suc count) flags = number_of_flags (take 8 flags) ∷ bitmap count (drop 8 flags)
