-- Slots and queues as numbers: the forms in which they are kept.
use Rattle.std.specs.Prelude.{◌≡◌, ℕ, zero, suc, ◌+◌, ◌*◌, ◌-◌, ◌/◌, ◌%◌, Bool, not, ◌&&◌, ◌==◌, nat_lt, nat_le}
use Rattle.std.specs.Prelude.{if◌then◌else◌, List, [], ◌∷◌, ◌++◌, map, length, unwrap_or}
use Rattle.std.specs.List.{flat_map}
use Rattle.mm_word.specs.declared.{cause.Cause.TheVariants.NotPointer, perm.Perm.TheVariants.Key}
use Rattle.mm_word.specs.{declared.word.{Word.{Word, TheVariants.{Int, Ptr}}, Cell.Cell}, Cause.{number_of, cause_of}}
use Rattle.mm_word.specs.{Perm.can_fetch, Pointer.{Pointer, pointer_of, bits_of, spells_pointer}}
use Rattle.mm_word.specs.Word.{word_bits, is_pointer}
use Rattle.mm_model.specs.declared.slot.SlotState.{SlotState, TheVariants.{Running, Waiting, Taken, Halted}}
use Rattle.mm_model.specs.{declared.{slot.Pending.Pending, event.Event.Event}, Effect.same_word}
use Rattle.mm_model.specs.{Flags.{one_if, flags, number_of_flags}, Slot.Slot}
use Rattle.mm_config.specs.StateNumbers.{state_number}

-- 1. Numbers in a row, and two numbers in one.

-- the first number; 0 if there is none
abbrev pub first_number : List ℕ → ℕ
first_number [] = 0
first_number (n ∷ ns) = n

abbrev pub behind : List ℕ → List ℕ
behind [] = []
behind (n ∷ ns) = ns

-- two numbers in one, the low one below n
abbrev pub packed : (n low high : ℕ) → ℕ
packed n low high = low + n * high

-- 2. Words.

-- the word of these bits: a pointer if they are tagged and spell one
abbrev pub word_of : Bool → ℕ → Word
word_of tagged bits = if tagged && spells_pointer bits then Ptr (pointer_of bits) else Int bits

abbrev pub word_form : Word → List ℕ
word_form w = one_if (is_pointer w) ∷ word_bits w ∷ []

abbrev pub word_from : List ℕ → Word × List ℕ
word_from ns = (word_of (first_number ns == 1) (first_number (behind ns)), behind (behind ns))

-- 3. A slot.

-- a flag for each word: whether it differs from that of the base
abbrev pub changed_flags : List Word → List Word → List Bool
changed_flags (b ∷ base) (w ∷ words) = not (same_word b w) ∷ changed_flags base words
changed_flags _ _ = []

-- the bits of the words that differ
abbrev pub changed_bits : List Word → List Word → List ℕ
changed_bits (b ∷ base) (w ∷ words) =
    if same_word b w then changed_bits base words else word_bits w ∷ changed_bits base words
changed_bits _ _ = []

-- the bits of the words whose flags are set
abbrev pub bits_set : List Bool → List Word → List ℕ
bits_set (f ∷ flags) (w ∷ words) = if f then word_bits w ∷ bits_set flags words else bits_set flags words
bits_set _ _ = []

abbrev pub words_from : (changed tagged : List Bool) → List Word → List ℕ → List Word × List ℕ
words_from (c ∷ changed) (t ∷ tagged) (b ∷ base) ns =
    let later = words_from changed tagged base (if c then behind ns else ns) in
    ((if c then word_of t (first_number ns) else b) ∷ later.0, later.1)
words_from _ _ base ns = (base, ns)

abbrev pub load_form : Pending → List ℕ
load_form p = p.reg ∷ word_form p.word

abbrev pub loads_from : ℕ → List ℕ → List Pending × List ℕ
loads_from zero ns = ([], ns)
loads_from (suc count) ns =
    let word = word_from (behind ns) in
    let later = loads_from count word.1 in
    (record { reg = first_number ns % 256; word = word.0 } ∷ later.0, later.1)

-- no more loads are read than there are registers
abbrev pub few_loads : ℕ → ℕ
few_loads count = if nat_lt 16 count then 16 else count

-- the state of a number
abbrev pub state_at : ℕ → SlotState
state_at n =
    if n == 0 then Running else if n == 1 then Waiting else if n == 2 then Taken else Halted (cause_of (n - 3))

-- the instruction pointer of these bits, or another if they spell none
abbrev pub ip_of : Pointer → ℕ → Pointer
ip_of other bits = if spells_pointer bits && can_fetch (pointer_of bits).perm then pointer_of bits else other

-- the flags of the sixteen registers, the first in the lowest bit of a number
unfoldable pub register_flags : ℕ → List Bool
register_flags n = flags 16 n

-- the state, `past`, the count of pending loads and the empty registers of a slot
abbrev pub slot_head : Slot → ℕ
slot_head s =
    packed 32 (state_number s.state) (packed 2 (one_if s.past) (packed 32 (length s.pending) (number_of_flags s.empty)))

-- the registers that differ, and those that hold pointers
abbrev pub slot_masks : Slot → Slot → ℕ
slot_masks base s =
    packed 65536 (number_of_flags (changed_flags base.regs s.regs)) (number_of_flags (map is_pointer s.regs))

unfoldable pub slot_form : Slot → Slot → List ℕ
slot_form base s =
    slot_head s ∷ slot_masks base s ∷ bits_of s.ip ∷ changed_bits base.regs s.regs ++ flat_map load_form s.pending

-- the slot of these numbers, whose turns are not counted
unfoldable pub slot_from : Slot → List ℕ → Slot
slot_from base ns =
    let head = first_number ns in
    let masks = first_number (behind ns) in
    let changed = register_flags (masks % 65536) in
    let words = words_from changed (register_flags (masks / 65536)) base.regs (behind (behind (behind ns))) in
    record base {
      regs = words.0;
      ip = ip_of base.ip (first_number (behind (behind ns)));
      past = head / 32 % 2 == 1;
      turns = 0;
      state = state_at (head % 32);
      empty = register_flags (head / 2048 % 65536);
      pending = (loads_from (few_loads (head / 64 % 32)) words.1).0;
    }

-- 4. A queue.

abbrev pub event_form : Event → List ℕ
event_form e = e.slot ∷ number_of e.cause ∷ bits_of e.ip ∷ word_form e.addr_op ++ word_form e.value_op

-- the pointer of these bits; a key if they spell none
abbrev pub pointer_or_key : ℕ → Pointer
pointer_or_key bits = if spells_pointer bits then pointer_of bits else record { perm = Key; log = 0; addr = 0 }

-- an event, given its operands and the numbers from the event's first on
abbrev pub event_with : List ℕ → Word × List ℕ → Word × List ℕ → Event × List ℕ
event_with ns addr value = (
  record {
    slot = first_number ns % 256;
    cause = unwrap_or (cause_of (first_number (behind ns))) NotPointer;
    ip = pointer_or_key (first_number (behind (behind ns)));
    addr_op = addr.0;
    value_op = value.0;
  },
  value.1,
)

unfoldable pub event_from : List ℕ → Event × List ℕ
event_from ns = let addr = word_from (behind (behind (behind ns))) in event_with ns addr (word_from addr.1)

abbrev pub queue_form : List Event → List ℕ
queue_form events = flat_map event_form events

-- the events of a queue, of seven numbers each
abbrev pub queue_from : List ℕ → List Event
queue_from (slot ∷ cause ∷ ip ∷ addr_tag ∷ addr ∷ value_tag ∷ value ∷ ns) =
    (event_from (slot ∷ cause ∷ ip ∷ addr_tag ∷ addr ∷ value_tag ∷ value ∷ ns)).0 ∷ queue_from ns
queue_from _ = []

-- 5. A cell.

-- the bits of the word, and a number for whether the cell is full and the word a pointer
abbrev pub cell_form : Cell → ℕ × ℕ
cell_form c = (word_bits c.word, one_if c.full + 2 * one_if (is_pointer c.word))

abbrev pub cell_from : ℕ × ℕ → Cell
cell_from x = record { word = word_of (nat_le 2 x.1) x.0; full = x.1 % 2 == 1 }

-- the form of a cell other than that of zeros
pub record IsCellForm (x : ℕ × ℕ) : Type 0 where
  pub again : cell_form (cell_from x) ≡ x
  pub some : x ≡ (0, 1) → ⊥
