-- Worked examples of runs.
use Rattle.std.specs.Prelude.{◌≡◌, ℕ, true, false, List, [], ◌∷◌, ◌++◌, length, take, drop, slice_set, map, replicate}
use Rattle.std.specs.Prelude.{codes, Option, Some, None}
use Rattle.mm_word.specs.declared.word.Word.{Word, TheVariants.Int}
use Rattle.mm_word.specs.declared.cause.Cause.TheVariants.{Perm, Priv, Trap, NoSlot}
use Rattle.mm_word.specs.declared.perm.{Perm.TheVariants.Xp, Kind.TheVariants.{Load, Store}}
use Rattle.mm_model.specs.declared.step.{Step.Step, Tick.{Tick, TheVariants.{Idle, Blocked, Did, Faulted, Delivered}}}
use Rattle.mm_model.specs.{declared.counts.Counts.Counts, Counted.counts_of, Memory.cell_at, Slot.{Slot, register}}
use Rattle.mm_model.specs.{State.{State, slot_at}, Image.{Image, start}, Report.report}
use Rattle.mm_model.specs.{Run.{run, steps, uses, robin_from}, Trace.trace, Uses.Accessed}
use Rattle.mm_format.specs.Images.{spelling, image_fault}
use Rattle.mm_examples.specs.Images.{pointer, page, full_int, memory, code_page, code, hello, smallest, one_word, jumps}
use Rattle.mm_examples.specs.Images.{moves_a_gate, loads_a_gate, exchange, signals_by_reading, traps, forges}
use Rattle.mm_examples.specs.Images.{two_groups, maps, splits, gated, sweeper}

-- the state after a list of items
abbrev pub then : Image → List ℕ → State
then i items = run (start i) items

-- the report after a list of items, without what a memory counts
abbrev pub reported : Image → List ℕ → List ℕ
reported i items = report (then i items) i None

-- the outcome of each cycle of a list of items
abbrev pub outcomes : Image → List ℕ → List Tick
outcomes i items = map (λ (s : Step). s.tick) (steps (start i) items)

-- a register of a slot, integer 0 if there is no slot
abbrev pub register_of : Option Slot → ℕ → Word
register_of None r = Int 0
register_of (Some s) r = register s r

abbrev pub register_then : Image → List ℕ → ℕ → ℕ → Word
register_then i items n r = register_of (slot_at (then i items).core n) r

-- 1. Runs of one slot.

-- one byte is put out, and round robin ends when no slot runs
abbrev pub SaysA : Type 0
SaysA = reported hello (robin_from (start hello) None 10)
    ≡ codes "cycles 3\ngroup 0 output 1\no 41\nslot 0 turns 3 halted ip p3300000000100010\nr 1 i0000000000000041\n"

-- the fetch faults, since no page is mapped
abbrev pub FetchesNoPage : Type 0
FetchesNoPage = reported smallest (robin_from (start smallest) None 5)
    ≡ codes "cycles 1\ngroup 0 output 0\nslot 0 turns 1 faulted 5 ip p3300000000100000\n"

-- the fetch past the last word of the segment faults
abbrev pub RunsPastTheEnd : Type 0
RunsPastTheEnd = reported one_word (0 ∷ 0 ∷ [])
    ≡ codes "cycles 2\ngroup 0 output 0\nslot 0 turns 2 faulted 3 ip p30c0000000100000 past\n"

-- a jump through an enter pointer goes to the pointer's own address
abbrev pub JumpsThroughAGate : Type 0
JumpsThroughAGate = reported jumps (0 ∷ [])
    ≡ codes "cycles 1\ngroup 0 output 0\nslot 0 turns 1 running ip p3300000000020010\nr 1 p5300000000020010\n"

-- an enter pointer can be neither moved nor loaded from
abbrev pub GatesStandStill : Type 0
GatesStandStill =
    (outcomes moves_a_gate (0 ∷ []) ≡ Faulted Perm ∷ []) × (outcomes loads_a_gate (0 ∷ []) ≡ Faulted Perm ∷ [])

-- a load that would set the bit needs the right to store, and the cell stays full
abbrev pub ReadingIsNoSignal : Type 0
ReadingIsNoSignal =
    (outcomes signals_by_reading (0 ∷ []) ≡ Faulted Perm ∷ [])
    × (cell_at (then signals_by_reading (0 ∷ [])).memory 0x100100 ≡ Some (record { word = Int 0; full = true }))

-- integer arithmetic takes the tag away
abbrev pub NoForgery : Type 0
NoForgery =
    reported forges (0 ∷ 0 ∷ 0 ∷ [])
    ≡ codes "cycles 3\ngroup 0 output 0\nslot 0 turns 3 faulted 1 ip p3300000000100010\nr 1 p2300000000010000\n"
    ++ codes "r 2 i2300000000010008\n"

-- no third page fits into two frames, and a page that was removed is not found
abbrev pub MapsFrames : Type 0
MapsFrames =
    reported (maps (pointer Xp 12 0x100000)) (0 ∷ 0 ∷ 0 ∷ [])
    ≡ codes "cycles 3\ngroup 0 output 0\nslot 0 turns 3 faulted 5 ip p4300000000100010\nr 1 i0000000000000200\n"
    ++ codes "r 3 i0000000000000001\nr 4 i0000000000000101\nr 6 p2300000000101000\npage 00000000101 gone\n"

abbrev pub MapIsPrivileged : Type 0
MapIsPrivileged = outcomes (maps code) (0 ∷ []) ≡ Faulted Priv ∷ []

-- The bytes of the smallest image, and the first faults of bytes like them.
abbrev pub smallest_bytes : List ℕ
smallest_bytes =
    codes "MMI1" ++ (0 ∷ 1 ∷ 0 ∷ 1 ∷ 0 ∷ 1 ∷ 0 ∷ 0 ∷ 0 ∷ 0 ∷ 0 ∷ 0 ∷ [])
    ++ (0 ∷ 0 ∷ 255 ∷ 0 ∷ 0x33 ∷ 0 ∷ 0 ∷ 0 ∷ 0 ∷ 0x10 ∷ 0 ∷ 0 ∷ []) ++ replicate 130 0

abbrev pub SpelledInBytes : Type 0
SpelledInBytes = (spelling smallest ≡ smallest_bytes) × (length (spelling hello) ≡ 4390)

-- the bytes of the smallest image with a register that is tagged and malformed
abbrev pub malformed_bytes : List ℕ
malformed_bytes = slice_set (slice_set smallest_bytes 29 8) 54 0x80

abbrev pub FirstFaults : Type 0
FirstFaults =
    (image_fault smallest_bytes ≡ None)
    × (image_fault (take 157 smallest_bytes) ≡ Some (1, 157))
    × (image_fault (smallest_bytes ++ 0 ∷ []) ≡ Some (13, 158))
    × (image_fault [] ≡ Some (1, 0))
    × (image_fault malformed_bytes ≡ Some (9, 54))
    × (image_fault (slice_set smallest_bytes 16 16) ≡ Some (5, 16))
    × (image_fault (slice_set (slice_set smallest_bytes 5 2) 16 64) ≡ Some (5, 16))
    × (image_fault (slice_set smallest_bytes 0 0) ≡ Some (2, 0))
    × (image_fault (slice_set smallest_bytes 5 3) ≡ Some (3, 4))
    × (image_fault (slice_set smallest_bytes 7 17) ≡ Some (4, 6))
    × (image_fault (slice_set smallest_bytes 9 0) ≡ Some (12, 8))
    × (image_fault (slice_set smallest_bytes 11 2) ≡ Some (12, 10))
    × (image_fault (slice_set smallest_bytes 15 1) ≡ Some (4, 12))
    × (image_fault (slice_set smallest_bytes 17 16) ≡ Some (6, 17))
    × (image_fault (slice_set smallest_bytes 18 0) ≡ Some (7, 18))
    × (image_fault (slice_set smallest_bytes 19 2) ≡ Some (8, 19))
    × (image_fault (slice_set smallest_bytes 20 0x23) ≡ Some (10, 20))
    × (image_fault (slice_set smallest_bytes 11 1 ++ replicate 8 255) ≡ Some (11, 158))

-- handlers are tested after the last slot, and before the first page
abbrev pub HandlersAreLate : Type 0
HandlersAreLate =
    (image_fault (slice_set (slice_set smallest_bytes 18 0) 19 2) ≡ Some (8, 19))
    × (image_fault (slice_set (slice_set smallest_bytes 11 1) 18 0 ++ replicate 8 255) ≡ Some (7, 18))
    × (image_fault (slice_set smallest_bytes 7 2 ++ slice_set (slice_set (drop 16 smallest_bytes) 0 1) 2 7)
    ≡ Some (7, 160))

-- 2. Runs of several slots.

-- a load waits until the cell is full
abbrev pub Exchanges : Type 0
Exchanges = (outcomes exchange (0 ∷ 0 ∷ 1 ∷ 0 ∷ []) ≡ Blocked ∷ Blocked ∷ Did ∷ Did ∷ [])
    × (register_then exchange (0 ∷ 0 ∷ 1 ∷ 0 ∷ []) 0 2 ≡ Int 7)

-- an image whose handler takes two events, in their order, and lets one slot go on: `evt r0`, `evt r4`, `resume r8,
-- skip`
abbrev pub handles : Image
handles = traps (0x5100000000000000 ∷ 0x5140000000000000 ∷ 0x5208010000000000 ∷ [])

abbrev pub TakesEvents : Type 0
TakesEvents =
    reported handles (1 ∷ 0 ∷ 2 ∷ 2 ∷ 2 ∷ 2 ∷ [])
    ≡ codes "cycles 6\ngroup 0 output 0\nslot 0 turns 1 taken ip p3300000000100000\n"
    ++ codes "group 1 output 0\nslot 1 turns 1 running ip p3300000000100008\n"
    ++ codes "group 2 output 0\nslot 2 turns 4 halted ip p3300000000101018\nr 0 i000000000000010b\n"
    ++ codes "r 1 p3300000000100000\nr 3 i0000000000000005\n"
    ++ codes "r 4 i000000000000000b\nr 5 p3300000000100000\nr 7 i0000000000000005\nr 8 i0000000000000001\n"

-- a slot whose event was not taken cannot be resumed
abbrev pub ResumesTakenAlone : Type 0
ResumesTakenAlone = outcomes (traps (0x5208010000000000 ∷ [])) (1 ∷ 2 ∷ []) ≡ Faulted Trap ∷ Faulted NoSlot ∷ []

-- two groups run under a schedule
abbrev pub TwoGroups : Type 0
TwoGroups =
    reported two_groups (0 ∷ 0 ∷ 0 ∷ 1 ∷ 0 ∷ 1 ∷ 1 ∷ [])
    ≡ codes "cycles 7\ngroup 0 output 2\no 4141\nslot 0 turns 4 running ip p3300000000100000\nr 1 i0000000000000041\n"
    ++ codes "group 1 output 2\no 4242\nslot 1 turns 3 running ip p3300000000100008\nr 1 i0000000000000042\n"

-- absent slots take idle cycles
abbrev pub AbsentSlotsIdle : Type 0
AbsentSlotsIdle = outcomes two_groups (9 ∷ 9 ∷ []) ≡ Idle ∷ Idle ∷ []

-- a jump through the gate is in the trace
abbrev pub TracesTheGate : Type 0
TracesTheGate =
    trace (start gated) (0 ∷ 1 ∷ 1 ∷ 1 ∷ 1 ∷ 1 ∷ [])
    ≡ codes "t 0 1 did fetch 00000000100080 store 00000000100100\n"
    ++ codes "t 1 1 did fetch 00000000100000 loadset 00000000100100\nt 1 2 did fetch 00000000100008\n"
    ++ codes "t 1 3 did fetch 00000000100010\nt 1 4 did fetch 00000000100018 enter p51800000001000c8\n"
    ++ codes "t 1 5 did fetch 000000001000c8\n"

abbrev pub WaitsInTheTrace : Type 0
WaitsInTheTrace =
    trace (start gated) (1 ∷ 1 ∷ [])
    ≡ codes "t 1 1 blocked fetch 00000000100000 loadset 00000000100100\n"
    ++ codes "t 1 2 blocked fetch 00000000100000 loadset 00000000100100\n"

-- the whole run of the gated counter, in round robin
abbrev pub CountsBehindTheGate : Type 0
CountsBehindTheGate =
    reported gated (robin_from (start gated) None 10000)
    ≡ codes "cycles 36\ngroup 0 output 0\nslot 0 turns 9 halted ip p31800000001000a0\nr 1 p20c0000000100100\n"
    ++ codes "r 2 i0000000000000003\n"
    ++ codes "group 1 output 2\no 4142\nslot 1 turns 27 halted ip p31c0000000100030\nr 1 p20c0000000100100\n"
    ++ codes "r 2 i0000000000000042\n"
    ++ codes "r 5 p51800000001000c8\nr 6 p31c0000000100020\nr 8 i0000000000000002\n"
    ++ codes "cell 00000000100100 i0000000000000002 empty\ncell 00000000100108 i0000000000000002 full\n"

-- 3. Split machines.

-- a load is issued, and its register is empty
abbrev pub Issues : Type 0
Issues =
    reported (splits 2 true) (0 ∷ [])
    ≡ codes "cycles 1\ngroup 0 output 0\nslot 0 turns 1 running ip p3300000000100008\nr 1 p10c0000000101000\n"
    ++ codes "r 2 empty\npending 2 i0000000000000007\n"

-- an issued load is delivered by a turn that needs its register, or by the slot's port
abbrev pub Delivers : Type 0
Delivers =
    (outcomes (splits 2 true) (0 ∷ 0 ∷ 0 ∷ 0 ∷ []) ≡ Did ∷ Blocked ∷ Did ∷ Did ∷ [])
    × (trace (start (splits 2 true)) (0 ∷ 128 ∷ [])
    ≡ codes "t 0 1 did fetch 00000000100000 load 00000000101000\nm 0 2\n")
    × (outcomes (splits 2 true) (0 ∷ 128 ∷ 0 ∷ 0 ∷ []) ≡ Did ∷ Delivered 2 ∷ Did ∷ Did ∷ [])

-- in a plain machine the load is done at once, and the port's cycle is idle
abbrev pub LoadsAtOnce : Type 0
LoadsAtOnce =
    (outcomes (splits 1 false) (0 ∷ 128 ∷ []) ≡ Did ∷ Idle ∷ [])
    × (register_then (splits 1 false) (0 ∷ 128 ∷ []) 0 2 ≡ Int 7)

-- an image with a load whose register is only written afterwards: `ld r2, r1, 0, any, keep`, `ldi r2, 1`
abbrev pub overwrites : Image
overwrites = record (splits 2 true)
    { memory = memory 2 (code_page (0x3021000000000000 ∷ 0x0220000000000001 ∷ []) ∷ page 0x101 (full_int 7 ∷ []) ∷ []) }

abbrev pub WaitsToWrite : Type 0
WaitsToWrite = (outcomes overwrites (0 ∷ 0 ∷ 0 ∷ []) ≡ Did ∷ Blocked ∷ Did ∷ [])
    × (register_then overwrites (0 ∷ 0 ∷ 0 ∷ []) 0 2 ≡ Int 1)

-- 4. The counts of a cache.

-- a store that was not done makes no block dirty, and a store that was done does
abbrev pub CountsDoneStores : Type 0
CountsDoneStores =
    (counts_of (Accessed Store 0x1000 true false ∷ Accessed Load 0x2000 true true ∷ [])
    ≡ record { hits = 0; misses = 2; writebacks = 0; tlb_hits = 0; tlb_misses = 2; reads = 2; writes = 0 })
    × (counts_of (Accessed Store 0x1000 true true ∷ Accessed Load 0x2000 true true ∷ [])
    ≡ record { hits = 0; misses = 2; writebacks = 1; tlb_hits = 1; tlb_misses = 2; reads = 2; writes = 1 })

abbrev pub robin : Image → List ℕ
robin i = robin_from (start i) None 1000

abbrev pub counted : Image → Counts
counted i = counts_of (uses (start i) (robin i))

abbrev pub CountsHello : Type 0
CountsHello = counted hello
    ≡ record { hits = 2; misses = 1; writebacks = 0; tlb_hits = 0; tlb_misses = 1; reads = 1; writes = 0 }

abbrev pub CountsGated : Type 0
CountsGated = counted gated
    ≡ record { hits = 42; misses = 4; writebacks = 0; tlb_hits = 3; tlb_misses = 1; reads = 4; writes = 0 }

-- the first page that is loaded from is no longer in the buffer, the second still is
abbrev pub CountsSweeper : Type 0
CountsSweeper = counted sweeper
    ≡ record { hits = 74; misses = 21; writebacks = 18; tlb_hits = 19; tlb_misses = 20; reads = 21; writes = 18 }
