-- The tests of a turn in their order.
use Rattle.std.specs.Prelude.{ℕ, ◌+◌, ◌^◌, Bool, true, false, not, ◌&&◌, ◌==◌, nat_lt, is_some, if◌then◌else◌, ℤ, pos}
use Rattle.std.specs.Prelude.{negsuc, ◌+ℤ◌, ◌*ℤ◌, List, [], ◌∷◌, ◌++◌, map, length, Option, Some, None, option_and_then}
use Rattle.std.specs.Int.{w64, cast_signed}
use Rattle.mm_word.specs.declared.{perm.{Perm.Perm, Kind.{Kind, TheVariants.{Fetch, Store}}}, cause.Cause.Cause}
use Rattle.mm_word.specs.declared.word.{Pre.{Pre, TheVariants.Any}, Word.{Word, TheVariants.{Int, Ptr}}, Cell.Cell}
use Rattle.mm_word.specs.{Access.access_tests, Cause.first_failing, Perm.{perm_of, can_become, can_move, execute_form}}
use Rattle.mm_word.specs.{Pointer.{Pointer, in_segment, spells_pointer, base_of}, Word.word_bits}
use Rattle.mm_isa.specs.declared.instr.Instr.{Instr}
use Rattle.mm_isa.specs.declared.instr.Instr.TheVariants.{Out, Alu, Lea, Leai, Leab, Restrict, Subseg, Setptr, Ld, St}
use Rattle.mm_isa.specs.declared.instr.Instr.TheVariants.{Br, Bz, Bnz, Jmp, Jal, Lip, Trap, Evt, Resume, Rreg, Wreg}
use Rattle.mm_isa.specs.{declared.instr.Instr.TheVariants.{Map, Unmap}, Alu.divides}
use Rattle.mm_model.specs.{declared.event.Event.Event, Memory.{Memory, cell_at, passes}}
use Rattle.mm_model.specs.{Slot.{Slot, register, is_empty}, State.{Core, slot_at, queue_at, output_of}}
use Rattle.mm_model.specs.{Image.output_limit, Operands.lacks, Ask.{is_privileged, load_kind}}
use Rattle.mm_model.specs.Turn.{is_taken, is_handler, instr_in}
use Rattle.mm_word.specs.declared.cause.Cause.TheVariants as cause

-- what a failed test leads to
pub data Stop : Type 0 where
  -- the turn faults
  Fault : (cause : Cause) → Stop
  -- a register that the instruction needs waits for a load: the oldest pending load of this slot is delivered
  Deliver : (of : Slot) → Stop
  -- the instruction waits for an event
  Block : Stop

-- 1. The tests of an access.

-- a test that leads to a fault if it fails
abbrev pub fault_test : Bool × Cause → Bool × Stop
fault_test t = (t.0, Fault t.1)

-- the cell at an exact sum
abbrev pub cell_at_sum : Memory → ℤ → Option Cell
cell_at_sum m (pos a) = cell_at m a
cell_at_sum m (negsuc _) = None

-- the cell at an offset from a word's address
abbrev pub cell_through : Memory → Word → ℤ → Option Cell
cell_through m (Int _) by = None
cell_through m (Ptr p) by = cell_at_sum m (pos p.addr +ℤ by)

-- the tests of a cell: it is there, and its bit passes
abbrev pub cell_tests : Option Cell → Pre → List (Bool × Cause)
cell_tests None pre = (false, cause.NoPage) ∷ []
cell_tests (Some c) pre = (true, cause.NoPage) ∷ (passes pre c.full, cause.Sync) ∷ []

-- the six tests of an access through a word
abbrev pub reach_tests : Memory → Word → ℤ → Kind → Pre → List (Bool × Stop)
reach_tests m w by kind pre = map fault_test (access_tests w by kind ++ cell_tests (cell_through m w by) pre)

-- 2. The tests of an instruction.

-- the 64 bits of a register
abbrev pub bits_in : Slot → ℕ → ℕ
bits_in s r = word_bits (register s r)

-- the 64 bits of a register as a signed integer
abbrev pub signed_in : Slot → ℕ → ℤ
signed_in s r = cast_signed w64 (bits_in s r)

-- tests through a pointer: an integer fails the first
abbrev pub pointer_tests : Word → (Pointer → List (Bool × Stop)) → List (Bool × Stop)
pointer_tests (Int _) rest = (false, Fault cause.NotPointer) ∷ []
pointer_tests (Ptr p) rest = (true, Fault cause.NotPointer) ∷ rest p

-- an exact sum is an address of the pointer's segment
abbrev pub in_segment_at : Pointer → ℤ → Bool
in_segment_at p (pos a) = in_segment p a
in_segment_at p (negsuc _) = false

-- the tests of moving a pointer to an exact sum
abbrev pub move_tests : Pointer → ℤ → List (Bool × Stop)
move_tests p z = (can_move p.perm, Fault cause.Perm) ∷ (in_segment_at p z, Fault cause.Bounds) ∷ []

-- the tests of restricting a pointer to the permission of a code, if the code has one
abbrev pub restrict_tests : Pointer → Option Perm → List (Bool × Stop)
restrict_tests p None = (false, Fault cause.Malformed) ∷ []
restrict_tests p (Some to) = (true, Fault cause.Malformed) ∷ (can_become p.perm to, Fault cause.Perm) ∷ []

-- the test of an address at a distance in words from the instruction's own
abbrev pub distance_tests : Slot → ℤ → List (Bool × Stop)
distance_tests s imm = (in_segment_at s.ip (pos s.ip.addr +ℤ (pos 8 *ℤ imm)), Fault cause.Bounds) ∷ []

-- a jump through the pointer is permitted
abbrev pub can_jump : Pointer → Bool
can_jump p = is_some (execute_form p.perm)

-- there is room for one more byte of the group's output
abbrev pub has_room : Core → ℕ → Bool
has_room core g = nat_lt (length (output_of core g)) (output_limit core.version)

-- an event is there
abbrev pub has_event : List Event → Bool
has_event [] = false
has_event (e ∷ rest) = true

-- a slot is there, has this handler and was taken by it
abbrev pub serves : ℕ → Option Slot → Bool
serves n None = false
serves n (Some of) = is_handler n of.handler && is_taken of.state

-- the tests of reading or writing a register of a served slot
abbrev pub serve_tests : Bool → ℕ → Option Slot → ℕ → List (Bool × Stop)
serve_tests split n None reg = (false, Fault cause.NoSlot) ∷ []
serve_tests split n (Some of) reg =
    (serves n (Some of), Fault cause.NoSlot) ∷ (not (split && is_empty of reg), Deliver of) ∷ []

-- the tests of mapping or unmapping a page
abbrev pub page_tests : Slot → ℕ → List (Bool × Stop)
page_tests s page = (is_privileged s.ip.perm, Fault cause.Priv) ∷ (nat_lt page (2 ^ 42), Fault cause.Bounds) ∷ []

-- the instruction's own tests, in the order of the table of instructions
unfoldable pub tests : Core → Memory → Slot → Instr → List (Bool × Stop)
tests core m s (Out ra) = (has_room core s.group, Fault cause.OutFull) ∷ []
tests core m s (Alu op rd ra rb) = if divides op then (not (bits_in s rb == 0), Fault cause.DivZero) ∷ [] else []
tests core m s (Lea rd ra rb) = pointer_tests (register s ra) (λ p. move_tests p (pos p.addr +ℤ signed_in s rb))
tests core m s (Leai rd ra imm) = pointer_tests (register s ra) (λ p. move_tests p (pos p.addr +ℤ imm))
tests core m s (Leab rd ra rb) = pointer_tests (register s ra) (λ p. move_tests p (pos (base_of p) +ℤ signed_in s rb))
tests core m s (Restrict rd ra rb) = pointer_tests (register s ra) (λ p. restrict_tests p (perm_of (bits_in s rb)))
tests core m s (Subseg rd ra rb) = pointer_tests (register s ra)
    (λ p. (can_move p.perm, Fault cause.Perm) ∷ (nat_lt (bits_in s rb) p.log, Fault cause.Bounds) ∷ [])
tests core m s (Setptr rd ra) =
    (is_privileged s.ip.perm, Fault cause.Priv) ∷ (spells_pointer (bits_in s ra), Fault cause.Malformed) ∷ []
tests core m s (Ld rd ra pre post imm) = reach_tests m (register s ra) imm (load_kind post) pre
tests core m s (St ra rb pre post imm) = reach_tests m (register s ra) imm Store pre
tests core m s (Br imm) = distance_tests s imm
tests core m s (Bz ra imm) = if bits_in s ra == 0 then distance_tests s imm else []
tests core m s (Bnz ra imm) = if bits_in s ra == 0 then [] else distance_tests s imm
tests core m s (Jmp ra) = pointer_tests (register s ra) (λ p. (can_jump p, Fault cause.Perm) ∷ [])
tests core m s (Jal rd ra) = pointer_tests (register s ra)
    (λ p. (can_jump p, Fault cause.Perm) ∷ (in_segment s.ip (s.ip.addr + 8), Fault cause.Bounds) ∷ [])
tests core m s (Lip rd imm) = distance_tests s imm
tests core m s (Trap imm) = (false, Fault cause.Trap) ∷ []
tests core m s (Evt rd) = (has_event (queue_at core s.number), Block) ∷ []
tests core m s (Resume ra how) = (serves s.number (slot_at core (bits_in s ra)), Fault cause.NoSlot) ∷ []
tests core m s (Rreg rd ra reg) = serve_tests core.split s.number (slot_at core (bits_in s ra)) reg
tests core m s (Wreg ra rb reg) = serve_tests core.split s.number (slot_at core (bits_in s ra)) reg
tests core m s (Map rd ra) = page_tests s (bits_in s ra)
tests core m s (Unmap rd ra) = page_tests s (bits_in s ra)
tests core m s _ = []

-- 3. The tests of a turn.

-- the instruction that a slot is at, if its cell is there and spells one
abbrev pub instr_at : Memory → Slot → Option Instr
instr_at m s = option_and_then (λ c. instr_in c.word) (cell_through m (Ptr s.ip) (pos 0))

-- the tests after the fetch: the cell spells an instruction, none of the registers that it names is empty, and its own
-- tests hold
abbrev pub instr_tests : Core → Memory → Slot → Option Instr → List (Bool × Stop)
instr_tests core m s None = (false, Fault cause.Illegal) ∷ []
instr_tests core m s (Some i) =
    (true, Fault cause.Illegal) ∷ (not (core.split && lacks i s), Deliver s) ∷ tests core m s i

-- the tests of a slot's turn: that it is not past its segment's end, those of the fetch, and those of the instruction
abbrev pub turn_tests : Core → Memory → Slot → List (Bool × Stop)
turn_tests core m s = (not s.past, Fault cause.Bounds) ∷ reach_tests m (Ptr s.ip) (pos 0) Fetch Any
    ++ instr_tests core m s (instr_at m s)

-- what the first failing test of a slot's turn leads to; none if all hold
unfoldable pub first_stop : Core → Memory → Slot → Option Stop
first_stop core m s = first_failing (turn_tests core m s)
