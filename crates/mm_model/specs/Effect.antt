-- What an instruction does with the reply to what it asked.
use Rattle.std.specs.Prelude.{ℕ, ◌+◌, ◌*◌, ◌%◌, ◌^◌, Bool, true, false, ◌&&◌, ◌||◌, ◌==◌, if◌then◌else◌, ℤ, pos, ◌+ℤ◌}
use Rattle.std.specs.Prelude.{◌*ℤ◌, List, [], ◌∷◌, slice_set, Option, Some, None, Result, Ok, Err}
use Rattle.std.specs.Int.{w32, w64, cast_unsigned, cast_signed}
use Rattle.mm_word.specs.declared.{perm.Perm.{Perm, TheVariants.{Eu, Ep}}, cause.Cause.Cause}
use Rattle.mm_word.specs.declared.word.{Post.Post, Word.{Word, TheVariants.{Int, Ptr}}, Cell.Cell}
use Rattle.mm_word.specs.{Access.AccessValue, Cause.number_of, Word.{word_bits, is_pointer}}
use Rattle.mm_word.specs.Pointer.{Pointer, moved_to, lea_result, leab_result, restrict_result, subseg_result}
use Rattle.mm_word.specs.Pointer.{setptr_result, next_result, enter_result}
use Rattle.mm_isa.specs.declared.instr.{DivZero.DivZero, How.{How, TheVariants.{Retry, Skip, Kill}}}
use Rattle.mm_isa.specs.declared.instr.Instr.{Instr}
use Rattle.mm_isa.specs.declared.instr.Instr.TheVariants.{Halt, Nop, Ldi, Ldhi, Mov, Isptr, Eqw, Out, SelfSlot, Alu}
use Rattle.mm_isa.specs.declared.instr.Instr.TheVariants.{Addi, Lea, Leai, Leab, Restrict, Subseg, Setptr, Ld, St, Br}
use Rattle.mm_isa.specs.declared.instr.Instr.TheVariants.{Bz, Bnz, Jmp, Jal, Lip, Trap, Evt, Resume, Rreg, Wreg, Map}
use Rattle.mm_isa.specs.{declared.instr.Instr.TheVariants.Unmap, Alu.alu_result}
use Rattle.mm_model.specs.declared.slot.{SlotState.TheVariants.{Running, Taken, Halted}, Pending.Pending}
use Rattle.mm_model.specs.{declared.event.Event.Event, Memory.full_after, Slot.{Slot, register, is_empty}}
use Rattle.mm_model.specs.Ask.{is_privileged}
use Rattle.mm_word.specs.declared.cause.Cause.TheVariants as cause
use Rattle.mm_word.specs.declared.word.Post.TheVariants as posts

-- what the machine around a slot replies
pub data Reply : Type 0 where
  Fine : Reply
  Refused : (cause : Cause) → Reply
  -- the cell of an access that passes its precondition
  Got : (access : AccessValue) (cell : Cell) → Reply
  -- whether the page was mapped or unmapped
  Paged : (page : ℕ) (done : Bool) → Reply
  -- no event is there
  NoEvent : Reply
  -- the oldest event, the events after it, and the slot that it is of
  Took : (event : Event) (rest : List Event) (of : Slot) → Reply
  -- the served slot
  Served : (of : Slot) → Reply

-- what becomes of the mapped pages
pub data Pages : Type 0 where
  Keep : Pages
  Add : (page : ℕ) → Pages
  Remove : (page : ℕ) → Pages

-- what an instruction that is carried out changes
pub record Change : Type 0 where
  -- registers of the slot, each with its new word
  pub writes : List (ℕ × Word)
  pub next : Pointer
  pub past : Bool
  pub halts : Bool
  -- a byte for the group's output
  pub out : Option ℕ
  -- a word and its new cell
  pub cell : Option (ℕ × Cell)
  pub pages : Pages
  -- the slot's own queue
  pub queue : Option (List Event)
  -- another slot
  pub other : Option Slot
  -- a load that is issued
  pub issue : Option Pending
  -- the enter pointer that is entered
  pub entered : Option Pointer

pub data Effect : Type 0 where
  Fault : (cause : Cause) → Effect
  -- the slot waits
  Block : Effect
  -- the slot waits, and the oldest pending load of the served slot is delivered
  Deliver : (other : Slot) → Effect
  Do : (change : Change) → Effect

abbrev pub moved_on : Pointer → Option Pointer → Pointer
moved_on p None = p
moved_on p (Some q) = q

abbrev pub is_missing : Option Pointer → Bool
is_missing None = true
is_missing (Some q) = false

-- the next instruction's pointer; the same pointer at the segment's end
unfoldable pub advanced : Pointer → Pointer
advanced p = moved_on p (next_result p)

-- the instruction was the segment's last
unfoldable pub runs_past : Pointer → Bool
runs_past p = is_missing (next_result p)

-- the change that is only the step to the next instruction
unfoldable pub plain : Slot → Change
plain s = record {
  writes = [];
  next = advanced s.ip;
  past = runs_past s.ip;
  halts = false;
  out = None;
  cell = None;
  pages = Keep;
  queue = None;
  other = None;
  issue = None;
  entered = None;
}

-- register rd gets a word
abbrev pub sets : Slot → ℕ → Word → Effect
sets s rd w = Do (record (plain s) { writes = (rd, w) ∷ [] })

abbrev pub sets_pointer : Slot → ℕ → Result Pointer Cause → Effect
sets_pointer s rd (Ok p) = sets s rd (Ptr p)
sets_pointer s rd (Err c) = Fault c

abbrev pub sets_number : Slot → ℕ → Result ℕ DivZero → Effect
sets_number s rd (Ok n) = sets s rd (Int n)
sets_number s rd (Err e) = Fault cause.DivZero

abbrev pub if_pointer : Word → (Pointer → Effect) → Effect
if_pointer (Int b) then_do = Fault cause.NotPointer
if_pointer (Ptr p) then_do = then_do p

abbrev pub test : Bool → ℕ
test true = 1
test false = 0

-- two words are equal in tag and bits
abbrev pub same_word : Word → Word → Bool
same_word (Int a) (Int b) = a == b
same_word (Ptr p) (Ptr q) = word_bits (Ptr p) == word_bits (Ptr q)
same_word _ _ = false

-- a word whose high half is the low half of `bits`, and whose low half is the 32 bits of imm
abbrev pub high_and_low : ℕ → ℤ → ℕ
high_and_low bits imm = bits * 2 ^ 32 % 2 ^ 64 + cast_unsigned w32 imm

abbrev pub puts_out : Slot → ℕ → Reply → Effect
puts_out s byte Fine = Do (record (plain s) { out = Some byte })
puts_out s byte (Refused c) = Fault c
puts_out s byte _ = Block

-- what a load leaves in its cell, if it sets the bit
abbrev pub set_by : Post → ℕ → Cell → Option (ℕ × Cell)
set_by posts.Keep w c = None
set_by posts.Full w c = Some (w, record c { full = true })
set_by posts.Empty w c = Some (w, record c { full = false })

-- in a split machine the load is issued and rd is empty until the word arrives
abbrev pub loads : Bool → Slot → ℕ → Word → Change
loads false s rd w = record (plain s) { writes = (rd, w) ∷ [] }
loads true s rd w = record (plain s) { writes = (rd, Int 0) ∷ []; issue = Some (record { reg = rd; word = w }) }

abbrev pub loaded : Bool → Slot → ℕ → Post → Reply → Effect
loaded split s rd post (Got a c) = Do (record (loads split s rd c.word) { cell = set_by post a.addr c })
loaded split s rd post (Refused c) = Fault c
loaded split s rd post _ = Block

abbrev pub stored : Slot → Word → Post → Reply → Effect
stored s w post (Got a c) =
    Do (record (plain s) { cell = Some (a.addr, record { word = w; full = full_after post c.full }) })
stored s w post (Refused c) = Fault c
stored s w post _ = Block

-- the instruction pointer moved by a distance in words
abbrev pub at_distance : Slot → ℤ → Result Pointer Cause
at_distance s imm = moved_to s.ip (pos s.ip.addr +ℤ (pos 8 *ℤ imm))

abbrev pub branches : Slot → Result Pointer Cause → Effect
branches s (Ok p) = Do (record (plain s) { next = p; past = false })
branches s (Err c) = Fault c

-- the enter pointer that a jump through p enters
abbrev pub entry_as : Pointer → Perm → Option Pointer
entry_as p Eu = Some p
entry_as p Ep = Some p
entry_as p _ = None

abbrev pub entry_of : Pointer → Option Pointer
entry_of p = entry_as p p.perm

abbrev pub jumps : Slot → Pointer → Option Pointer → Effect
jumps s p None = Fault cause.Perm
jumps s p (Some to) = Do (record (plain s) { next = to; past = false; entered = entry_of p })

-- the jump, after which rd holds the pointer to the instruction after this one
abbrev pub links : Slot → ℕ → Pointer → Option Pointer → Option Pointer → Effect
links s rd p None behind = Fault cause.Perm
links s rd p (Some to) None = Fault cause.Bounds
links s rd p (Some to) (Some back) =
    Do (record (plain s) { writes = (rd, Ptr back) ∷ []; next = to; past = false; entered = entry_of p })

-- an event's words go to four registers, and its slot is taken
abbrev pub takes : Slot → ℕ → Reply → Effect
takes s rd (Took e rest of) = Do (record (plain s) {
  writes = (rd, Int (number_of e.cause + 256 * e.slot)) ∷ (rd + 1, Ptr e.ip) ∷ (rd + 2, e.addr_op)
      ∷ (rd + 3, e.value_op) ∷ [];
  queue = Some rest;
  other = Some (record of { state = Taken });
})
takes s rd (Refused c) = Fault c
takes s rd _ = Block

abbrev pub resumed_by : How → Slot → Slot
resumed_by Retry of = record of { state = Running }
resumed_by Skip of = record of { state = Running; ip = advanced of.ip; past = of.past || runs_past of.ip }
resumed_by Kill of = record of { state = Halted None }

abbrev pub resumes : Slot → How → Reply → Effect
resumes s how (Served of) = Do (record (plain s) { other = Some (resumed_by how of) })
resumes s how (Refused c) = Fault c
resumes s how _ = Block

abbrev pub delivers : Slot → List Pending → Slot
delivers s [] = s
delivers s (p ∷ rest) =
    record s { regs = slice_set s.regs p.reg p.word; empty = slice_set s.empty p.reg false; pending = rest }

-- the slot with its oldest pending load delivered
unfoldable pub delivered : Slot → Slot
delivered s = delivers s s.pending

-- a register of the served slot that waits for a load makes the turn wait too
abbrev pub reads_of : Bool → Slot → ℕ → ℕ → Reply → Effect
reads_of split s rd reg (Served of) =
    if split && is_empty of reg then Deliver (delivered of) else sets s rd (register of reg)
reads_of split s rd reg (Refused c) = Fault c
reads_of split s rd reg _ = Block

abbrev pub writes_of : Bool → Slot → ℕ → Word → Reply → Effect
writes_of split s reg w (Served of) =
    if split && is_empty of reg then Deliver (delivered of)
    else Do (record (plain s) { other = Some (record of { regs = slice_set of.regs reg w }) })
writes_of split s reg w (Refused c) = Fault c
writes_of split s reg w _ = Block

abbrev pub maps : Slot → ℕ → Reply → Effect
maps s rd (Paged page true) = Do (record (plain s) { writes = (rd, Int 1) ∷ []; pages = Add page })
maps s rd (Paged page false) = sets s rd (Int 0)
maps s rd (Refused c) = Fault c
maps s rd _ = Block

abbrev pub unmaps : Slot → ℕ → Reply → Effect
unmaps s rd (Paged page true) = Do (record (plain s) { writes = (rd, Int 1) ∷ []; pages = Remove page })
unmaps s rd (Paged page false) = sets s rd (Int 0)
unmaps s rd (Refused c) = Fault c
unmaps s rd _ = Block

-- The table of instructions: what each does for its slot with the reply, in a split machine or in a plain one.
unfoldable pub effect : Bool → Instr → Slot → Reply → Effect
effect split Halt s reply = Do (record (plain s) { next = s.ip; past = s.past; halts = true })
effect split Nop s reply = Do (plain s)
effect split (Ldi rd imm) s reply = sets s rd (Int (cast_unsigned w64 imm))
effect split (Ldhi rd imm) s reply = sets s rd (Int (high_and_low (word_bits (register s rd)) imm))
effect split (Mov rd ra) s reply = sets s rd (register s ra)
effect split (Isptr rd ra) s reply = sets s rd (Int (test (is_pointer (register s ra))))
effect split (Eqw rd ra rb) s reply = sets s rd (Int (test (same_word (register s ra) (register s rb))))
effect split (Out ra) s reply = puts_out s (word_bits (register s ra) % 256) reply
effect split (SelfSlot rd) s reply = sets s rd (Int s.number)
effect split (Alu op rd ra rb) s reply =
    sets_number s rd (alu_result op (word_bits (register s ra)) (word_bits (register s rb)))
effect split (Addi rd ra imm) s reply = sets s rd (Int ((word_bits (register s ra) + cast_unsigned w64 imm) % 2 ^ 64))
effect split (Lea rd ra rb) s reply =
    if_pointer (register s ra) (λ p. sets_pointer s rd (lea_result p (cast_signed w64 (word_bits (register s rb)))))
effect split (Leai rd ra imm) s reply = if_pointer (register s ra) (λ p. sets_pointer s rd (lea_result p imm))
effect split (Leab rd ra rb) s reply =
    if_pointer (register s ra) (λ p. sets_pointer s rd (leab_result p (cast_signed w64 (word_bits (register s rb)))))
effect split (Restrict rd ra rb) s reply =
    if_pointer (register s ra) (λ p. sets_pointer s rd (restrict_result p (word_bits (register s rb))))
effect split (Subseg rd ra rb) s reply =
    if_pointer (register s ra) (λ p. sets_pointer s rd (subseg_result p (word_bits (register s rb))))
effect split (Setptr rd ra) s reply =
    if is_privileged s.ip.perm then sets_pointer s rd (setptr_result (word_bits (register s ra))) else Fault cause.Priv
effect split (Ld rd ra pre post imm) s reply = loaded split s rd post reply
effect split (St ra rb pre post imm) s reply = stored s (register s rb) post reply
effect split (Br imm) s reply = branches s (at_distance s imm)
effect split (Bz ra imm) s reply =
    if word_bits (register s ra) == 0 then branches s (at_distance s imm) else Do (plain s)
effect split (Bnz ra imm) s reply =
    if word_bits (register s ra) == 0 then Do (plain s) else branches s (at_distance s imm)
effect split (Jmp ra) s reply = if_pointer (register s ra) (λ p. jumps s p (enter_result p))
effect split (Jal rd ra) s reply = if_pointer (register s ra) (λ p. links s rd p (enter_result p) (next_result s.ip))
effect split (Lip rd imm) s reply = sets_pointer s rd (at_distance s imm)
effect split (Trap imm) s reply = Fault cause.Trap
effect split (Evt rd) s reply = takes s rd reply
effect split (Resume ra how) s reply = resumes s how reply
effect split (Rreg rd ra reg) s reply = reads_of split s rd reg reply
effect split (Wreg ra rb reg) s reply = writes_of split s reg (register s rb) reply
effect split (Map rd ra) s reply = maps s rd reply
effect split (Unmap rd ra) s reply = unmaps s rd reply
