-- The checkpoint of an image as a format: a row of its table is a line.
use Rattle.std.specs.Prelude.{◌≡◌, ℕ, ◌+◌, ◌*◌, Bool, false, not, ◌&&◌, ◌||◌, ◌==◌, nat_lt, nat_le, if◌then◌else◌, List}
use Rattle.std.specs.Prelude.{[], ◌∷◌, ◌++◌, map, length, codes, option_map, unwrap_or, is_some, Option, Some, None}
use Rattle.mm_word.specs.declared.cause.Cause.TheVariants.{NotPointer}
use Rattle.mm_word.specs.declared.word.{Word.{Word, TheVariants.{Int, Ptr}}, Cell.Cell}
use Rattle.mm_word.specs.{Pointer.{pointer_of, spells_pointer}, Word.{word_bits, is_pointer}, Cause.cause_of}
use Rattle.mm_model.specs.{declared.{slot.Pending.Pending, event.Event.Event}, Flags.{flags, number_of_flags, one_if}}
use Rattle.mm_model.specs.{Slot.Slot, Image.{Image, output_limit}, Limits.cycle_limit}
use Rattle.mm_format.specs.Formats.{Format, Late, byte, u16, u32, u64, text, test, literal, part, done, ◌>>=◌, each}
use Rattle.mm_format.specs.{Formats.{times, late}, Images.{mask, ip, word, page}}
use Rattle.mm_machine.specs.Snapshot.{Parts}
use Rattle.mm_checkpoint.specs.declared.{header.Header.Header, rows.{Queued.Queued, SlotRow.SlotRow}}
use Rattle.mm_checkpoint.specs.declared.waiting.Waiter.{Waiter}
use Rattle.mm_checkpoint.specs.Checkpoints.{Saved, IsCheckpoint, saved_of, last_byte, state_byte, cause_byte}
use Rattle.mm_checkpoint.specs.Checkpoints.{place_byte, event_of}
use Rattle.mm_checkpoint.specs.Reading.{state_of, handler_of, in_order, events_of, slots_start, groups_of}
use Rattle.mm_checkpoint.specs.Tests.{is_bad_state, is_bad_cause, bits_set, is_bad_entry, is_bad_place}

-- 1. The header.

unfoldable pub header : (frames : ℕ) → Format Header
header frames = do
  magic ← part (λ h. codes "MMS1") (literal (codes "MMS1") 2)
  version ← part (λ h. 1) (test u16 3 (λ n. not (n == 1)))
  last ← part (λ h. last_byte h.last) (test byte 4 (λ n. nat_le 64 n && not (n == 255)))
  zero ← part (λ h. 0) (test byte 4 (λ n. not (n == 0)))
  cycles ← part (λ h. h.cycles) (test u64 4 (λ n. nat_lt cycle_limit n))
  pages ← part (λ h. h.pages) (test u16 12 (λ n. nat_lt frames n))
  done (record { last = if last == 255 then None else Some last; cycles = cycles; pages = pages })

-- 2. Words.

-- a word whose bits have to pass a further test
unfoldable pub word_with : (tagged : Bool) (bad : ℕ → Bool) → Format Word
word_with tagged bad = do
  bits ← part word_bits (test (test u64 9 (λ n. tagged && not (spells_pointer n))) 9 bad)
  done (if tagged then Ptr (pointer_of bits) else Int bits)

-- a word after its tag, a number up to this
unfoldable pub tagged : (most : ℕ) → (Bool → Format Word) → Format Word
tagged most word_by = do
  tag ← part (λ w. one_if (is_pointer w)) (test byte 4 (nat_lt most))
  word ← part (λ w. w) (word_by (tag == 1))
  done word

-- a register, which holds integer 0 if it is empty
abbrev pub register : Bool × Bool → Format Word
register masks = word_with masks.0 (λ n. masks.1 && (masks.0 || not (n == 0)))

-- an operand: a word if the slot waits, else integer 0
abbrev pub operand : (waits : Bool) → Format Word
operand waits = tagged (one_if waits) (λ tag. word_with tag (λ n. not waits && not (n == 0)))

-- a pending load, after others
unfoldable pub load : (empty : ℕ) (earlier : List Pending) → Format Pending
load empty earlier = do
  register ← part (λ p. p.reg) (test byte 4 (is_bad_entry empty earlier))
  word ← part (λ p. p.word) (tagged 1 word)
  done (record { reg = register; word = word })

-- the count of the pending loads of a slot, which is that of its empty registers
unfoldable pub load_count : (empty : ℕ) → Format ℕ
load_count empty = test byte 4 (λ n. not (n == bits_set empty))

-- pairs of the flags at the same place of two lists
abbrev pub beside : List Bool → List Bool → List (Bool × Bool)
beside [] bs = []
beside (a ∷ rest) [] = []
beside (a ∷ rest) (b ∷ bs) = (a, b) ∷ beside rest bs

-- 3. The record of a slot.

abbrev pub event_in : SlotRow → Option Event
event_in r = option_map (λ q. q.event) r.queued

abbrev pub place_in_row : Option Queued → ℕ
place_in_row None = 0
place_in_row (Some q) = q.place

abbrev pub address_in : Option Event → Word
address_in None = Int 0
address_in (Some event) = event.addr_op

abbrev pub value_in : Option Event → Word
value_in None = Int 0
value_in (Some event) = event.value_op

unfoldable pub slot_row : (split : Bool) (cycles : ℕ) → Slot → Format SlotRow
slot_row split cycles s = do
  state ← part (λ r. state_byte r.slot.state) (test byte 8 (is_bad_state (is_some s.handler)))
  cause ← part (λ r. cause_byte r.slot.state (event_in r)) (test byte 4 (is_bad_cause state))
  place ← part (λ r. place_in_row r.queued) (test byte 7 (λ n. not (state == 1) && not (n == 0)))
  past ← part (λ r. one_if r.slot.past) (test byte 4 (nat_lt 1))
  turns ← part (λ r. r.slot.turns) (test u64 4 (nat_lt cycles))
  ip ← part (λ r. r.slot.ip) ip
  tags ← part (λ r. map is_pointer r.slot.regs) mask
  empty ← part (λ r. number_of_flags r.slot.empty) (test u16 4 (λ n. not split && not (n == 0)))
  regs ← part (λ r. r.slot.regs) (each register (beside tags (flags 16 empty)))
  address ← part (λ r. address_in (event_in r)) (operand (state == 1))
  value ← part (λ r. value_in (event_in r)) (operand (state == 1))
  count ← part (λ r. length r.slot.pending) (load_count empty)
  pending ← part (λ r. r.slot.pending) (times (load empty) (λ earlier p. earlier ++ p ∷ []) count [])
  done (record {
    slot = record {
      number = s.number;
      group = s.group;
      handler = s.handler;
      regs = regs;
      ip = ip;
      past = past == 1;
      turns = turns;
      state = state_of state cause;
      empty = flags 16 empty;
      pending = pending;
    };
    queued = if state == 1 then Some (record {
      place = place;
      event = record {
        slot = s.number;
        cause = unwrap_or (cause_of cause) NotPointer;
        ip = ip;
        addr_op = address;
        value_op = value;
      };
    }) else None;
  })

-- the slot of a record that begins at an offset, if it waits
abbrev pub waiter_in : (at : ℕ) → Slot → Option Queued → List Waiter
waiter_in at s None = []
waiter_in at s (Some q) = record { handler = handler_of s; place = q.place; at = at + 2; event = q.event } ∷ []

-- the slots that wait, of records from an offset on
abbrev pub waiters_in : (at : ℕ) → List SlotRow → List Waiter
waiters_in at [] = []
waiters_in at (r ∷ rows) = waiter_in at r.slot r.queued ++ waiters_in (at + 171 + 10 * length r.slot.pending) rows

-- the places of waiters in their order, each tested against all and against those before it
abbrev pub queue_tests : (all earlier : List Waiter) → List Waiter → List Late
queue_tests all earlier [] = []
queue_tests all earlier (w ∷ waiters) =
    record { number = 7; offset = w.at; bad = is_bad_place all earlier w }
    ∷ queue_tests all (earlier ++ w ∷ []) waiters

-- 4. The whole.

-- the header, and the records of the image's slots
pub record Front : Type 0 where
  pub head : Header
  pub rows : List SlotRow

unfoldable pub front : Image → Format Front
front i = do
  head ← part (λ f. f.head) (header i.memory.frames)
  rows ← part (λ f. f.rows) (each (slot_row i.split head.cycles) i.slots)
  done (record { head = head; rows = rows })

abbrev pub front_from : Header → List SlotRow → Front
front_from head rows = record { head = head; rows = rows }

-- the slots that wait
abbrev pub waiting_in : Front → List Waiter
waiting_in f = waiters_in slots_start f.rows

-- the places in queues are tested after the last slot, since each is compared with those of other slots
abbrev pub tested : Image → Format Front
tested i = late (front i) (λ f. queue_tests (waiting_in f) [] (waiting_in f))

unfoldable pub output : (limit group : ℕ) → Format (ℕ × List ℕ)
output limit group = do
  size ← part (λ o. length o.1) (test u32 4 (nat_lt limit))
  bytes ← part (λ o. o.1) (text size)
  done (group, bytes)

-- what a file says
pub record Contents : Type 0 where
  pub front : Front
  pub outputs : List (ℕ × List ℕ)
  pub pages : List (ℕ × List Cell)

unfoldable pub checkpoint : Image → Format Contents
checkpoint i = do
  front ← part (λ c. c.front) (tested i)
  outputs ← part (λ c. c.outputs) (each (output (output_limit i.version)) (groups_of i.slots))
  pages ← part (λ c. c.pages) (times page (λ _ p. p.0 + 1) front.head.pages 0)
  done (record { front = front; outputs = outputs; pages = pages })

abbrev pub contents_from : Header → List SlotRow → List (ℕ × List ℕ) → List (ℕ × List Cell) → Contents
contents_from head rows outputs pages =
    record { front = front_from head rows; outputs = outputs; pages = pages }

-- the parts of a checkpoint that they are
abbrev pub saved_in : Contents → Saved
saved_in c = record {
  slots = map (λ r. r.slot) c.front.rows;
  events = events_of (in_order (waiting_in c.front));
  outputs = c.outputs;
  pages = c.pages;
  cycles = c.front.head.cycles;
  last = c.front.head.last;
}

-- 5. The bytes.

-- the row of a slot: with its event, and the place of this in its queue, if the slot waits
abbrev pub row_of : (events : List (ℕ × Event)) → Slot → SlotRow
row_of events s = record {
  slot = s;
  queued = option_map (λ event. record { place = place_byte events s; event = event }) (event_of events s.number);
}

abbrev pub header_of : Saved → Header
header_of c = record { last = c.last; cycles = c.cycles; pages = length c.pages }

-- what a file says that has these parts of a checkpoint
abbrev pub contents_of : Saved → Contents
contents_of c = contents_from (header_of c) (map (row_of c.events) c.slots) c.outputs c.pages

-- the bytes of the file of an image's checkpoint
abbrev pub spelling : Image → Saved → List ℕ
spelling i c = (checkpoint i).spell (contents_of c)

-- the bytes are a checkpoint of the image: they spell these parts of a state and this last slot
pub record Saves (bytes : List ℕ) (i : Image) (p : Parts) (last : Option ℕ) : Type 0 where
  pub checkpoint : IsCheckpoint i p last
  pub spelled : bytes ≡ spelling i (saved_of p last)

-- the bytes of each record, and those of a word after its tag, whatever they are tested against
abbrev pub slot_record : (events : List (ℕ × Event)) → Slot → List ℕ
slot_record events s = (slot_row false 0 s).spell (row_of events s)

abbrev pub output_record : ℕ × List ℕ → List ℕ
output_record o = (output 0 0).spell o

abbrev pub load_record : Pending → List ℕ
load_record p = (load 0 []).spell p

abbrev pub tagged_word : Word → List ℕ
tagged_word w = (tagged 1 word).spell w
