-- Worked examples of checkpoints: of the bytes of records and of whole files, and of first faults.
use Rattle.std.specs.Prelude.{◌≡◌, ℕ, true, false, List, [], ◌∷◌, ◌++◌, take, drop, slice_set, replicate, codes, Option}
use Rattle.std.specs.Prelude.{Some, None}
use Rattle.mm_word.specs.declared.{perm.Perm.TheVariants.{Ro, Rw, Xu, Xp}, word.Word.{Word, TheVariants.{Int, Ptr}}}
use Rattle.mm_word.specs.declared.cause.Cause.TheVariants.{Align, NoPage, Trap}
use Rattle.mm_model.specs.{declared.{event.Event.Event, slot.SlotState.TheVariants.{Waiting, Halted}}, Flags.flags}
use Rattle.mm_model.specs.{Image.{Image, start}, Run.run, Slot.Slot}
use Rattle.mm_checkpoint.specs.Checkpoints.{Saved}
use Rattle.mm_checkpoint.specs.Format.{header, header_of, slot_record, output_record, load_record, spelling}
use Rattle.mm_checkpoint.specs.{Faults.first_fault, States.saved_form}
use Rattle.mm_examples.specs.Images.{pointer, smallest, splits, traps, two_groups}

-- 1. The bytes of records: each field of a record has a value of its own, so a table that had two of them in the other
-- order would spell other bytes.

-- the parts of a checkpoint of which the header speaks: 521 pages, whatever is in them
abbrev pub parts_with : Option ℕ → Saved
parts_with last = record {
  slots = [];
  events = [];
  outputs = [];
  pages = replicate 521 (0, []);
  cycles = 0x030405060708090a;
  last = last;
}

-- magic, version, last slot, zero, cycles, count of pages
abbrev pub SpellsHeaders : Type 0
SpellsHeaders =
    ((header 0).spell (header_of (parts_with (Some 11)))
    ≡ codes "MMS1" ++ (0 ∷ 1 ∷ 11 ∷ 0 ∷ 3 ∷ 4 ∷ 5 ∷ 6 ∷ 7 ∷ 8 ∷ 9 ∷ 10 ∷ 2 ∷ 9 ∷ []))
    × ((header 0).spell (header_of (parts_with None))
    ≡ codes "MMS1" ++ (0 ∷ 1 ∷ 255 ∷ 0 ∷ 3 ∷ 4 ∷ 5 ∷ 6 ∷ 7 ∷ 8 ∷ 9 ∷ 10 ∷ 2 ∷ 9 ∷ []))

-- a slot that waits, with two pending loads
abbrev pub waiting_slot : Slot
waiting_slot = record {
  number = 3;
  group = 4;
  handler = Some 5;
  regs = Int 9 ∷ Ptr (pointer Xu 12 0x100008) ∷ replicate 14 (Int 0);
  ip = pointer Xp 12 0x100010;
  past = false;
  turns = 0x1112131415161718;
  state = Waiting;
  empty = flags 16 0x0108;
  pending = record { reg = 8; word = Ptr (pointer Rw 3 0x100020) } ∷ record { reg = 6; word = Int 12 } ∷ [];
}

-- its event, whose operands are a pointer and an integer
abbrev pub event_for : ℕ → Event
event_for slot = record {
  slot = slot;
  cause = Trap;
  ip = pointer Xp 12 0x100010;
  addr_op = Ptr (pointer Ro 3 0x100018);
  value_op = Int 10;
}

-- two events are before its own in the queue of slot 5, and one is in another queue
abbrev pub events : List (ℕ × Event)
events = (5, event_for 7) ∷ (6, event_for 8) ∷ (5, event_for 9) ∷ (5, event_for 3) ∷ []

-- the bytes of an integer below 256
abbrev pub small_bytes : ℕ → List ℕ
small_bytes n = replicate 7 0 ++ n ∷ []

-- state, cause, place, past, turns, instruction pointer, tags, empty registers, registers, address, value, count of
-- pending loads; and of each of these register, tag and word
abbrev pub SpellsWaitingSlots : Type 0
SpellsWaitingSlots =
    slot_record events waiting_slot
    ≡ (1 ∷ 11 ∷ 2 ∷ 0 ∷ 0x11 ∷ 0x12 ∷ 0x13 ∷ 0x14 ∷ 0x15 ∷ 0x16 ∷ 0x17 ∷ 0x18 ∷ [])
    ++ (0x43 ∷ 0 ∷ 0 ∷ 0 ∷ 0 ∷ 0x10 ∷ 0 ∷ 0x10 ∷ 0 ∷ 2 ∷ 1 ∷ 8 ∷ [])
    ++ small_bytes 9 ++ (0x33 ∷ 0 ∷ 0 ∷ 0 ∷ 0 ∷ 0x10 ∷ 0 ∷ 8 ∷ []) ++ replicate 112 0
    ++ (1 ∷ 0x10 ∷ 0xc0 ∷ 0 ∷ 0 ∷ 0 ∷ 0x10 ∷ 0 ∷ 0x18 ∷ [])
    ++ (0 ∷ []) ++ small_bytes 10
    ++ (2 ∷ 8 ∷ 1 ∷ 0x20 ∷ 0xc0 ∷ 0 ∷ 0 ∷ 0 ∷ 0x10 ∷ 0 ∷ 0x20 ∷ 6 ∷ 0 ∷ []) ++ small_bytes 12

-- a slot that was halted by a fault, past its segment; it waits for nothing
abbrev pub halted_slot : Slot
halted_slot = record waiting_slot { past = true; state = Halted (Some Align); pending = [] }

abbrev pub SpellsHaltedSlots : Type 0
SpellsHaltedSlots =
    slot_record [] halted_slot
    ≡ (3 ∷ 4 ∷ 0 ∷ 1 ∷ 0x11 ∷ 0x12 ∷ 0x13 ∷ 0x14 ∷ 0x15 ∷ 0x16 ∷ 0x17 ∷ 0x18 ∷ [])
    ++ (0x43 ∷ 0 ∷ 0 ∷ 0 ∷ 0 ∷ 0x10 ∷ 0 ∷ 0x10 ∷ 0 ∷ 2 ∷ 1 ∷ 8 ∷ [])
    ++ small_bytes 9 ++ (0x33 ∷ 0 ∷ 0 ∷ 0 ∷ 0 ∷ 0x10 ∷ 0 ∷ 8 ∷ []) ++ replicate 131 0

-- count of bytes, bytes; register, tag, word
abbrev pub SpellsOutputsAndLoads : Type 0
SpellsOutputsAndLoads =
    (output_record (4, 5 ∷ 6 ∷ 7 ∷ []) ≡ 0 ∷ 0 ∷ 0 ∷ 3 ∷ 5 ∷ 6 ∷ 7 ∷ [])
    × (load_record (record { reg = 2; word = Ptr (pointer Xu 12 0x100008) })
    ≡ 2 ∷ 1 ∷ 0x33 ∷ 0 ∷ 0 ∷ 0 ∷ 0 ∷ 0x10 ∷ 0 ∷ 8 ∷ [])

-- 2. The bytes of whole files.

-- the checkpoint after a list of items
abbrev pub saved : Image → List ℕ → Option ℕ → List ℕ
saved i items last = spelling i (saved_form (run (start i) items) last)

-- of the smallest image after its one turn: the slot was halted, since its page is not mapped
abbrev pub SavesAFault : Type 0
SavesAFault =
    saved smallest (0 ∷ []) (Some 0)
    ≡ codes "MMS1" ++ (0 ∷ 1 ∷ 0 ∷ 0 ∷ []) ++ small_bytes 1 ++ (0 ∷ 0 ∷ [])
    ++ (3 ∷ 5 ∷ 0 ∷ 0 ∷ []) ++ small_bytes 1 ++ (0x33 ∷ 0 ∷ 0 ∷ 0 ∷ 0 ∷ 0x10 ∷ 0 ∷ 0 ∷ []) ++ replicate 155 0

-- the record of a slot after it put out its register 1
abbrev pub said_record : ℕ → List ℕ
said_record letter =
    replicate 4 0 ++ small_bytes 1 ++ (0x33 ∷ 0 ∷ 0 ∷ 0 ∷ 0 ∷ 0x10 ∷ 0 ∷ 8 ∷ []) ++ replicate 12 0
    ++ small_bytes letter ++ replicate 131 0

-- of two slots after a turn of each: header, records, the outputs of their groups, a page
abbrev pub SavesOutputsAndPages : Type 0
SavesOutputsAndPages =
    saved two_groups (0 ∷ 1 ∷ []) (Some 1)
    ≡ codes "MMS1" ++ (0 ∷ 1 ∷ 1 ∷ 0 ∷ []) ++ small_bytes 2 ++ (0 ∷ 1 ∷ [])
    ++ said_record 0x41 ++ said_record 0x42
    ++ (0 ∷ 0 ∷ 0 ∷ 1 ∷ 0x41 ∷ 0 ∷ 0 ∷ 0 ∷ 1 ∷ 0x42 ∷ [])
    ++ (0 ∷ 0 ∷ 0 ∷ 0 ∷ 0 ∷ 0 ∷ 1 ∷ 0 ∷ []) ++ replicate 64 0 ++ replicate 64 255
    ++ (7 ∷ 1 ∷ 0 ∷ 0 ∷ 0 ∷ 0 ∷ 0 ∷ 0 ∷ 0x40 ∷ 0 ∷ 0 ∷ 0 ∷ 255 ∷ 255 ∷ 255 ∷ 255 ∷ []) ++ replicate 4080 0

-- 3. First faults.

-- the checkpoint of the smallest image at its start
abbrev pub plain_bytes : List ℕ
plain_bytes =
    codes "MMS1" ++ (0 ∷ 1 ∷ 255 ∷ 0 ∷ []) ++ replicate 22 0
    ++ (0x33 ∷ 0 ∷ 0 ∷ 0 ∷ 0 ∷ 0x10 ∷ 0 ∷ 0 ∷ []) ++ replicate 155 0

abbrev pub plain_fault : List ℕ → Option (ℕ × ℕ)
plain_fault bytes = first_fault smallest bytes

abbrev pub FirstFaultsOfHeaders : Type 0
FirstFaultsOfHeaders =
    (plain_fault plain_bytes ≡ None)
    × (plain_fault [] ≡ Some (1, 0))
    × (plain_fault (take 192 plain_bytes) ≡ Some (1, 192))
    × (plain_fault (plain_bytes ++ 0 ∷ []) ≡ Some (13, 193))
    × (plain_fault (slice_set plain_bytes 0 0) ≡ Some (2, 0))
    × (plain_fault (slice_set plain_bytes 5 2) ≡ Some (3, 4))
    × (plain_fault (slice_set plain_bytes 6 64) ≡ Some (4, 6))
    × (plain_fault (slice_set plain_bytes 7 1) ≡ Some (4, 7))
    × (plain_fault (slice_set plain_bytes 12 1) ≡ Some (4, 8))
    × (plain_fault (slice_set plain_bytes 17 2) ≡ Some (12, 16))

abbrev pub FirstFaultsOfSlots : Type 0
FirstFaultsOfSlots =
    (plain_fault (slice_set plain_bytes 18 4) ≡ Some (8, 18))
    × (plain_fault (slice_set plain_bytes 18 1) ≡ Some (8, 18))
    × (plain_fault (slice_set plain_bytes 19 1) ≡ Some (4, 19))
    × (plain_fault (slice_set plain_bytes 20 1) ≡ Some (7, 20))
    × (plain_fault (slice_set plain_bytes 21 2) ≡ Some (4, 21))
    × (plain_fault (slice_set plain_bytes 29 1) ≡ Some (4, 22))
    × (plain_fault (slice_set plain_bytes 30 0x23) ≡ Some (10, 30))
    × (plain_fault (slice_set (slice_set plain_bytes 39 8) 66 0x80) ≡ Some (9, 66))
    × (plain_fault (slice_set plain_bytes 41 1) ≡ Some (4, 40))
    × (plain_fault (slice_set plain_bytes 170 1) ≡ Some (4, 170))
    × (plain_fault (slice_set plain_bytes 178 1) ≡ Some (9, 171))
    × (plain_fault (slice_set plain_bytes 179 1) ≡ Some (4, 179))
    × (plain_fault (slice_set plain_bytes 187 1) ≡ Some (9, 180))
    × (plain_fault (slice_set plain_bytes 188 1) ≡ Some (4, 188))

abbrev pub FirstFaultsOfOutputsAndPages : Type 0
FirstFaultsOfOutputsAndPages =
    (plain_fault (slice_set (slice_set plain_bytes 191 16) 192 1) ≡ Some (4, 189))
    × (plain_fault (slice_set plain_bytes 191 16) ≡ Some (1, 193))
    × (plain_fault (slice_set plain_bytes 17 1 ++ replicate 8 255) ≡ Some (11, 193))

-- the record of a slot with no register that holds anything, which waits for a handler or for nothing
abbrev pub bare_record : (state cause place page : ℕ) → List ℕ
bare_record state cause place page =
    (state ∷ cause ∷ place ∷ []) ++ replicate 9 0 ++ (0x33 ∷ 0 ∷ 0 ∷ 0 ∷ 0 ∷ 0x10 ∷ page ∷ 0 ∷ []) ++ replicate 151 0

-- the checkpoint of an image whose slots 0 and 1 trapped, slot 1 first: both wait for slot 2
abbrev pub trapped_bytes : List ℕ
trapped_bytes =
    codes "MMS1" ++ (0 ∷ 1 ∷ 0 ∷ 0 ∷ []) ++ small_bytes 2 ++ (0 ∷ 0 ∷ [])
    ++ bare_record 1 11 1 0 ++ bare_record 1 11 0 0 ++ bare_record 0 0 0 0x10 ++ replicate 12 0

abbrev pub trapped_fault : List ℕ → Option (ℕ × ℕ)
trapped_fault bytes = first_fault (traps []) bytes

abbrev pub FirstFaultsOfWaitingSlots : Type 0
FirstFaultsOfWaitingSlots =
    (trapped_fault trapped_bytes ≡ None)
    × (trapped_fault (slice_set trapped_bytes 19 0) ≡ Some (4, 19))
    × (trapped_fault (slice_set trapped_bytes 19 14) ≡ Some (4, 19))
    × (trapped_fault (slice_set trapped_bytes 170 2) ≡ Some (4, 170))
    × (trapped_fault (slice_set (slice_set trapped_bytes 170 1) 171 0x80) ≡ Some (9, 171))
    × (trapped_fault (slice_set trapped_bytes 179 2) ≡ Some (4, 179))
    × (trapped_fault (slice_set (slice_set trapped_bytes 179 1) 180 0x80) ≡ Some (9, 180))
    × (trapped_fault (slice_set trapped_bytes 360 2) ≡ Some (8, 360))
    × (trapped_fault (slice_set (slice_set trapped_bytes 360 3) 361 14) ≡ Some (4, 361))

-- places in queues are tested after the last slot, and before the first output
abbrev pub PlacesAreLate : Type 0
PlacesAreLate =
    (trapped_fault (slice_set trapped_bytes 20 2) ≡ Some (7, 20))
    × (trapped_fault (slice_set trapped_bytes 20 0) ≡ Some (7, 191))
    × (trapped_fault (slice_set (slice_set trapped_bytes 20 2) 363 2) ≡ Some (4, 363))
    × (trapped_fault (slice_set (slice_set trapped_bytes 20 2) 533 255) ≡ Some (7, 20))

-- the checkpoint of a split machine whose register 2 waits for a load
abbrev pub loading_bytes : List ℕ
loading_bytes =
    codes "MMS1" ++ (0 ∷ 1 ∷ 0 ∷ 0 ∷ []) ++ small_bytes 1 ++ replicate 14 0
    ++ (0x33 ∷ 0 ∷ 0 ∷ 0 ∷ 0 ∷ 0x10 ∷ 0 ∷ 0 ∷ 0 ∷ 2 ∷ 0 ∷ 4 ∷ []) ++ replicate 8 0
    ++ (0x10 ∷ 0xc0 ∷ 0 ∷ 0 ∷ 0 ∷ 0x10 ∷ 0x10 ∷ 0 ∷ []) ++ replicate 130 0
    ++ (1 ∷ 2 ∷ 0 ∷ []) ++ small_bytes 7 ++ replicate 4 0

abbrev pub loading_fault : List ℕ → Option (ℕ × ℕ)
loading_fault bytes = first_fault (splits 2 true) bytes

-- the same bytes with two empty registers and two loads for one of them
abbrev pub loads_twice : List ℕ
loads_twice =
    take 199 (slice_set (slice_set loading_bytes 41 12) 188 2) ++ 2 ∷ replicate 9 0 ++ drop 199 loading_bytes

abbrev pub FirstFaultsOfLoads : Type 0
FirstFaultsOfLoads =
    (loading_fault loading_bytes ≡ None)
    × (loading_fault (slice_set loading_bytes 39 6) ≡ Some (9, 58))
    × (loading_fault (slice_set loading_bytes 65 1) ≡ Some (9, 58))
    × (loading_fault (slice_set loading_bytes 188 0) ≡ Some (4, 188))
    × (loading_fault (slice_set loading_bytes 189 3) ≡ Some (4, 189))
    × (loading_fault (slice_set loading_bytes 189 16) ≡ Some (4, 189))
    × (loading_fault (slice_set loading_bytes 190 2) ≡ Some (4, 190))
    × (loading_fault (slice_set (slice_set loading_bytes 190 1) 191 0x80) ≡ Some (9, 191))
    × (loading_fault loads_twice ≡ Some (4, 199))
