-- Images of worked examples.
use Rattle.std.specs.Prelude.{ℕ, ◌-◌, Bool, true, false, List, [], ◌∷◌, ◌++◌, map, length, replicate, slice_set, Some}
use Rattle.std.specs.{Prelude.None, List.{fold, range_with_len}}
use Rattle.mm_word.specs.declared.perm.Perm.{Perm, TheVariants.{Ro, Rw, Xu, Eu}}
use Rattle.mm_word.specs.{declared.word.{Word.{Word, TheVariants.{Int, Ptr}}, Cell.Cell}, Pointer.Pointer}
use Rattle.mm_model.specs.{declared.slot.SlotState.TheVariants.Running, Memory.{Memory, zero_cell}, Slot.Slot}
use Rattle.mm_model.specs.Image.{Image, none_empty}

-- 1. Parts.

abbrev pub pointer : Perm → ℕ → ℕ → Pointer
pointer perm log addr = record { perm = perm; log = log; addr = addr }

abbrev pub full_int : ℕ → Cell
full_int bits = record { word = Int bits; full = true }

-- a page that begins with these cells and goes on with zeros
abbrev pub page : ℕ → List Cell → ℕ × List Cell
page number cells = (number, cells ++ replicate (512 - length cells) zero_cell)

abbrev pub code_page : List ℕ → ℕ × List Cell
code_page words = page 0x100 (map full_int words)

-- the registers of a slot: those of the list, and integer 0 in all others
abbrev pub registers : List (ℕ × Word) → List Word
registers list = fold (λ regs r. slice_set regs r.0 r.1) (replicate 16 (Int 0)) list

-- the pointer at which user code begins
abbrev pub code : Pointer
code = pointer Xu 12 0x100000

-- a running slot without a handler
abbrev pub slot : ℕ → ℕ → Pointer → List (ℕ × Word) → Slot
slot number group ip list = record {
  number = number;
  group = group;
  handler = None;
  regs = registers list;
  ip = ip;
  past = false;
  turns = 0;
  state = Running;
  empty = none_empty;
  pending = [];
}

abbrev pub memory : ℕ → List (ℕ × List Cell) → Memory
memory frames pages = record { pages = pages; frames = frames }

abbrev pub image : List Slot → Memory → Image
image slots m = record { version = 1; split = false; slots = slots; memory = m }

-- an image of one slot whose code page has these words
abbrev pub one : List ℕ → List (ℕ × Word) → Image
one words list = image (slot 0 0 code list ∷ []) (memory 1 (code_page words ∷ []))

-- 2. Images.

-- an image of a slot that loads 65, puts it out and halts
abbrev pub hello : Image
hello = one (0x0210000000000041 ∷ 0x0701000000000000 ∷ []) []

-- an image without pages
abbrev pub smallest : Image
smallest = image (slot 0 0 code [] ∷ []) (memory 1 [])

-- an image whose code segment has one word, a nop
abbrev pub one_word : Image
one_word = image (slot 0 0 (pointer Xu 3 0x100000) [] ∷ []) (memory 1 (code_page (0x0100000000000000 ∷ []) ∷ []))

-- a gate to 0x20010
abbrev pub gate : Pointer
gate = pointer Eu 12 0x20010

-- images of one instruction, `jmp r1`, `lea r2, r1, r3` or `ld r2, r1, 0, any, keep`, with the gate in r1
abbrev pub jumps : Image
jumps = one (0x4301000000000000 ∷ []) ((1, Ptr gate) ∷ [])

abbrev pub moves_a_gate : Image
moves_a_gate = one (0x2021300000000000 ∷ []) ((1, Ptr gate) ∷ [])

abbrev pub loads_a_gate : Image
loads_a_gate = one (0x3021000000000000 ∷ []) ((1, Ptr gate) ∷ [])

-- slot 0 loads from a cell once it is full, `ld r2, r1, 0, full, keep`; slot 1 fills it, `st r1, r3, 0, any, full`
abbrev pub box : Pointer
box = pointer Rw 3 0x100100

abbrev pub exchange : Image
exchange = image
    (slot 0 0 code ((1, Ptr box) ∷ []) ∷ slot 1 1 (pointer Xu 12 0x100010) ((1, Ptr box) ∷ (3, Int 7) ∷ []) ∷ [])
    (memory 1 (page 0x100 (map full_int (0x3021040000000000 ∷ 0 ∷ 0x3101310000000000 ∷ []) ++ replicate 29 zero_cell
    ++ record { word = Int 0; full = false } ∷ []) ∷ []))

-- an image with `ld r2, r1, 0, any, empty` through a read-only pointer
abbrev pub signals_by_reading : Image
signals_by_reading = one (0x3021020000000000 ∷ []) ((1, Ptr (pointer Ro 3 0x100100)) ∷ [])

-- slots 0 and 1 trap; slot 2 takes their events, `evt r0`, `evt r4`, `resume r8, skip`, with 1 in r8
abbrev pub served : ℕ → ℕ → ℕ → Slot
served number group at = record (slot number group (pointer Xu 12 at) []) { handler = Some 2 }

abbrev pub traps : List ℕ → Image
traps handler = image
    (served 0 0 0x100000 ∷ served 1 1 0x100000 ∷ slot 2 2 (pointer Xu 12 0x101000) ((8, Int 1) ∷ []) ∷ [])
    (memory 2 (code_page (0x5000000000000005 ∷ []) ∷ page 0x101 (map full_int handler) ∷ []))

-- an image with `addi r2, r1, 8`, `isptr r3, r2`, `ld r4, r2, 0, any, keep`
abbrev pub forges : Image
forges = one (0x1e21000000000008 ∷ 0x0532000000000000 ∷ 0x3042000000000000 ∷ []) ((1, Ptr (pointer Rw 12 0x10000)) ∷ [])

-- an image in which two slots of two groups run `out r1`, `br -1`
abbrev pub two_groups : Image
two_groups = image (slot 0 0 code ((1, Int 0x41) ∷ []) ∷ slot 1 1 code ((1, Int 0x42) ∷ []) ∷ [])
    (memory 1 (code_page (0x0701000000000000 ∷ 0x40000000ffffffff ∷ []) ∷ []))

-- an image in which the second group may also store into the first one's code page
abbrev pub one_pointer_too_many : Image
one_pointer_too_many = image
    (slot 0 0 code [] ∷ slot 1 1 (pointer Xu 12 0x101000) ((1, Ptr (pointer Rw 3 0x100018)) ∷ []) ∷ [])
    (memory 2 (code_page [] ∷ page 0x101 [] ∷ []))

-- an image of privileged code: `map r2, r1`, `unmap r3, r4`, `ld r5, r6, 0, any, keep`
abbrev pub maps : Pointer → Image
maps ip = image
    (slot 0 0 ip ((1, Int 0x200) ∷ (4, Int 0x101) ∷ (6, Ptr (pointer Rw 12 0x101000)) ∷ []) ∷ [])
    (memory 2 (code_page (0x6021000000000000 ∷ 0x6134000000000000 ∷ 0x3056000000000000 ∷ []) ∷ page 0x101 [] ∷ []))

-- an image with a load whose value is used: `ld r2, r1, 0, any, keep`, `addi r3, r2, 1`
abbrev pub splits : ℕ → Bool → Image
splits version split = record {
  version = version;
  split = split;
  slots = slot 0 0 code ((1, Ptr (pointer Ro 3 0x101000)) ∷ []) ∷ [];
  memory = memory 2 (code_page (0x3021000000000000 ∷ 0x1e32000000000001 ∷ []) ∷ page 0x101 (full_int 7 ∷ []) ∷ []);
}

-- A consumer takes what a producer leaves in a box, and counts through a gate.

-- the consumer: `ld r2, r1, 0, full, empty`, `addi r2, r2, 64`, `out r2`, `jal r6, r5`, `addi r3, r3, -1`, `bnz r3,
-- -5`, `halt`
abbrev pub consumer : List ℕ
consumer =
    0x3021060000000000 ∷ 0x1e22000000000040 ∷ 0x0702000000000000 ∷ 0x4465000000000000 ∷ 0x1e330000ffffffff
    ∷ 0x42030000fffffffb ∷ 0 ∷ []

-- the producer: `st r1, r2, 0, empty, full`, `addi r2, r2, 1`, `addi r3, r3, -1`, `bnz r3, -3`, `halt`
abbrev pub producer : List ℕ
producer = 0x3101290000000000 ∷ 0x1e22000000000001 ∷ 0x1e330000ffffffff ∷ 0x42030000fffffffd ∷ 0 ∷ []

-- the counter: `lip r7, -1`, `ld r7, r7, 0, any, keep`, `ld r8, r7, 0, any, keep`, `addi r8, r8, 1`, `st r7, r8, 0,
-- any, keep`, `ldi r7, 0`, `jmp r6`
abbrev pub counter : List ℕ
counter =
    0x45700000ffffffff ∷ 0x3077000000000000 ∷ 0x3087000000000000 ∷ 0x1e88000000000001 ∷ 0x3107800000000000
    ∷ 0x0270000000000000 ∷ 0x4306000000000000 ∷ []

abbrev pub count : Pointer
count = pointer Rw 3 0x100108

abbrev pub door : Pointer
door = pointer Eu 6 0x1000c8

abbrev pub gated_page : List Cell
gated_page =
    map full_int consumer ++ replicate 9 zero_cell ++ map full_int producer ++ replicate 3 zero_cell
    ++ record { word = Ptr count; full = true } ∷ map full_int counter
    ++ record { word = Int 0; full = false } ∷ zero_cell ∷ []

abbrev pub gated : Image
gated = image
    (slot 0 0 (pointer Xu 6 0x100080) ((1, Ptr box) ∷ (2, Int 1) ∷ (3, Int 2) ∷ [])
    ∷ slot 1 1 (pointer Xu 7 0x100000) ((1, Ptr box) ∷ (3, Int 2) ∷ (5, Ptr door) ∷ []) ∷ [])
    (memory 1 (page 0x100 gated_page ∷ []))

-- an image that stores into 18 pages, one after the other, and loads from two of them: `st r1, r2, 0, any, keep`, `leai
-- r1, r1, 4096`, `addi r3, r3, -1`, `bnz r3, -3`, `ld r5, r4, 0, any, keep`, `ld r6, r7, 0, any, keep`, `halt`
abbrev pub sweeper : Image
sweeper = image
    (slot 0 0 code ((1, Ptr (pointer Rw 17 0x120040)) ∷ (2, Int 7) ∷ (3, Int 18) ∷ (4, Ptr (pointer Ro 17 0x121040))
    ∷ (7, Ptr (pointer Ro 17 0x123040)) ∷ []) ∷ [])
    (memory 19
    (code_page (0x3101200000000000 ∷ 0x2111000000001000 ∷ 0x1e330000ffffffff ∷ 0x42030000fffffffd ∷ 0x3054000000000000
    ∷ 0x3067000000000000 ∷ [])
    ∷ map (λ n. page n []) (range_with_len 0x120 18)))
