-- Each row of the table of instructions: what it moves around its slot.
use Rattle.std.proofs.Common.{◌≡◌, ℕ, ◌+◌, ◌%◌, ◌^◌, Bool, true, false, ◌&&◌, ◌==◌, nat_lt, if◌then◌else◌, List, []}
use Rattle.std.proofs.Common.{◌∷◌, ◌++◌, length, Option, Some, None, Result, Ok, Err, refl, sym, ap, ◌∙◌, slice_set}
use Rattle.std.specs.Int.{w64, cast_unsigned, cast_signed}
use Rattle.mm_word.specs.declared.{perm.Kind.TheVariants.Store, cause.Cause.Cause}
use Rattle.mm_word.specs.declared.word.{Pre.Pre, Post.Post, Word.{Word, TheVariants.{Int, Ptr}}, Cell.Cell}
use Rattle.mm_word.specs.{Access.{AccessValue, check_result}, Word.{word_bits, is_pointer}}
use Rattle.mm_word.specs.Pointer.{Pointer, lea_result, leab_result, restrict_result, subseg_result, setptr_result}
use Rattle.mm_word.specs.Pointer.{next_result, enter_result}
use Rattle.mm_isa.specs.declared.instr.{DivZero.DivZero, How.{How, TheVariants.{Retry, Skip, Kill}}}
use Rattle.mm_isa.specs.declared.instr.Instr.{Instr}
use Rattle.mm_isa.specs.declared.instr.Instr.TheVariants.{Halt, Nop, Ldi, Ldhi, Mov, Isptr, Eqw, Out, SelfSlot, Alu}
use Rattle.mm_isa.specs.declared.instr.Instr.TheVariants.{Addi, Lea, Leai, Leab, Restrict, Subseg, Setptr, Ld, St, Br}
use Rattle.mm_isa.specs.declared.instr.Instr.TheVariants.{Bz, Bnz, Jmp, Jal, Lip, Trap, Evt, Resume, Rreg, Wreg, Map}
use Rattle.mm_isa.specs.{declared.instr.Instr.TheVariants.Unmap, Alu.alu_result}
use Rattle.mm_model.specs.declared.{slot.{SlotState.TheVariants.Taken, Pending.Pending}, event.Event.Event}
use Rattle.mm_model.specs.Memory.{Memory, cell_at, is_mapped, can_map, put_cell, map_page, unmap_page, passes}
use Rattle.mm_model.specs.{Memory.full_after, Slot.{Slot, register, is_empty}}
use Rattle.mm_model.specs.{State.{Core, slot_at, queue_at, output_of}, Image.output_limit}
use Rattle.mm_model.specs.Ask.{Ask, ask, is_privileged, load_kind, reaching}
use Rattle.mm_model.specs.Ask.Ask.{Nothing, Refuse, Reach, MapPage, UnmapPage, NextEvent, Room, Serve}
use Rattle.mm_model.specs.Effect.{Reply, Change, Effect, effect, plain, sets, sets_pointer, sets_number, if_pointer}
use Rattle.mm_model.specs.Effect.{test, same_word, high_and_low, puts_out, loaded, stored, at_distance, branches, jumps}
use Rattle.mm_model.specs.Effect.{links, takes, resumed_by, resumes, delivers, delivered, reads_of, writes_of, maps}
use Rattle.mm_model.specs.Effect.{unmaps}
use Rattle.mm_model.specs.Effect.{Reply.{Fine, Refused, Got, Paged, Served}, Effect.{Fault, Block, Deliver, Do}}
use Rattle.mm_model.specs.Turn.{reply, reached, event_reply, first_event, served, is_taken, is_handler, memory_after}
use Rattle.mm_model.proofs.{CoreRows.slot_at-number, Memories.can_map-facts}
use Rattle.mm_word.specs.declared.cause.Cause.TheVariants as cause
use Rattle.mm_word.specs.declared.word.Post.TheVariants as posts

-- 1. What may become of a slot, of a queue, of an output and of a memory.

-- the flags and the pending loads stay, or a load is issued, or the oldest is delivered
pub data LoadsMove (was now : Slot) : Type 0 where
  stay : now.empty ≡ was.empty → now.pending ≡ was.pending → LoadsMove was now
  issue : (p : Pending) → now.empty ≡ slice_set was.empty p.reg true → now.pending ≡ was.pending ++ p ∷ [] → LoadsMove was now
  deliver : (p : Pending) (rest : List Pending) → was.pending ≡ p ∷ rest → now.pending ≡ rest → now.empty ≡ slice_set was.empty p.reg false → LoadsMove was now

pub record SlotMove (was now : Slot) : Type 0 where
  pub number : now.number ≡ was.number
  pub group : now.group ≡ was.group
  pub handler : now.handler ≡ was.handler
  pub loads : LoadsMove was now

pub data MemoryMove (m : Memory) (asked : Ask) (later : Memory) : Type 0 where
  stays : later ≡ m → MemoryMove m asked later
  writes : (a : AccessValue) (pre : Pre) (old c : Cell) → asked ≡ Reach a pre → cell_at m a.addr ≡ Some old → later ≡ put_cell m a.addr c → MemoryMove m asked later
  maps_page : (p : ℕ) → asked ≡ MapPage p → is_mapped m p ≡ false → later ≡ map_page m p → MemoryMove m asked later
  removes_page : (p : ℕ) → asked ≡ UnmapPage p → is_mapped m p ≡ true → later ≡ unmap_page m p → MemoryMove m asked later

module _ (core : Core) (n : ℕ) (asked : Ask) where
  -- another slot: one that was asked for, or that of the first event
  pub data OtherMove (o : Slot) : Type 0 where
    serves : (old : Slot) → asked ≡ Serve o.number → slot_at core o.number ≡ Some old → SlotMove old o → o.turns ≡ old.turns → OtherMove o
    takes_first : (old : Slot) (e : Event) (rest : List Event) → asked ≡ NextEvent → queue_at core n ≡ e ∷ rest
        → e.slot ≡ o.number → slot_at core o.number ≡ Some old → o ≡ record old { state = Taken } → OtherMove o

  abbrev pub OtherMoves : Option Slot → Type 0
  OtherMoves None = Unit {0}
  OtherMoves (Some o) = OtherMove o

  -- the slot's own queue loses its first event
  abbrev pub QueueMoves : Option (List Event) → Type 0
  QueueMoves None = Unit {0}
  QueueMoves (Some rest) = (asked ≡ NextEvent) × ((e : Event) × (queue_at core n ≡ e ∷ rest))

pub record ChangeMoves (core : Core) (m : Memory) (s : Slot) (asked : Ask) (c : Change) : Type 0 where
  pub other : OtherMoves core s.number asked c.other
  pub queue : QueueMoves core s.number asked c.queue
  pub memory : MemoryMove m asked (memory_after m c)

abbrev pub EffectMoves : Core → Memory → Slot → Ask → Effect → Type 0
EffectMoves core m s asked (Fault c) = Unit {0}
EffectMoves core m s asked Block = Unit {0}
EffectMoves core m s asked (Deliver o) = OtherMove core s.number asked o
EffectMoves core m s asked (Do c) = ChangeMoves core m s asked c

-- 2. The rows.

pub delivered_move : (s : Slot) → SlotMove s (delivered s)
unfolding delivered
delivered_move s = by s.pending refl
  where
    by : (ps : List Pending) → s.pending ≡ ps → SlotMove s (delivers s ps)
    by [] is = record { number = refl; group = refl; handler = refl; loads = LoadsMove.stay refl refl }
    by (p ∷ rest) is = record { number = refl; group = refl; handler = refl; loads = LoadsMove.deliver p rest is refl refl }

pub delivered_turns : (s : Slot) → (delivered s).turns ≡ s.turns
unfolding delivered
delivered_turns s = by s.pending
  where
    by : (ps : List Pending) → (delivers s ps).turns ≡ s.turns
    by [] = refl
    by (p ∷ rest) = refl

module _ (core : Core) (m : Memory) (s : Slot) (asked : Ask) where
  abbrev Moves : Effect → Type 0
  Moves e = EffectMoves core m s asked e

  if_moves : (b : Bool) (x y : Effect) → Moves x → Moves y → Moves (if b then x else y)
  if_moves true x y h k = h
  if_moves false x y h k = k

  plain_moves : Moves (Do (plain s))
  unfolding plain memory_after
  plain_moves = record { other = tt; queue = tt; memory = MemoryMove.stays refl }

  halt_moves : Moves (Do (record (plain s) { next = s.ip; past = s.past; halts = true }))
  unfolding plain memory_after
  halt_moves = record { other = tt; queue = tt; memory = MemoryMove.stays refl }

  sets_moves : (rd : ℕ) (w : Word) → Moves (sets s rd w)
  unfolding plain memory_after
  sets_moves rd w = record { other = tt; queue = tt; memory = MemoryMove.stays refl }

  pointer_moves : (rd : ℕ) (r : Result Pointer Cause) → Moves (sets_pointer s rd r)
  pointer_moves rd (Ok p) = sets_moves rd (Ptr p)
  pointer_moves rd (Err c) = tt

  number_moves : (rd : ℕ) (r : Result ℕ DivZero) → Moves (sets_number s rd r)
  number_moves rd (Ok n) = sets_moves rd (Int n)
  number_moves rd (Err e) = tt

  through_moves : (w : Word) (f : Pointer → Effect) → ((p : Pointer) → Moves (f p)) → Moves (if_pointer w f)
  through_moves (Int b) f h = tt
  through_moves (Ptr p) f h = h p

  out_moves : (byte : ℕ) (b : Bool) → Moves (puts_out s byte (if b then Fine else Refused cause.OutFull))
  unfolding plain memory_after
  out_moves byte true = record { other = tt; queue = tt; memory = MemoryMove.stays refl }
  out_moves byte false = tt

  branch_moves : (r : Result Pointer Cause) → Moves (branches s r)
  unfolding plain memory_after
  branch_moves (Ok p) = record { other = tt; queue = tt; memory = MemoryMove.stays refl }
  branch_moves (Err c) = tt

  jump_moves : (p : Pointer) (o : Option Pointer) → Moves (jumps s p o)
  unfolding plain memory_after
  jump_moves p None = tt
  jump_moves p (Some to) = record { other = tt; queue = tt; memory = MemoryMove.stays refl }

  link_moves : (rd : ℕ) (p : Pointer) (o back : Option Pointer) → Moves (links s rd p o back)
  unfolding plain memory_after
  link_moves rd p None back = tt
  link_moves rd p (Some to) None = tt
  link_moves rd p (Some to) (Some q) = record { other = tt; queue = tt; memory = MemoryMove.stays refl }

  -- accesses

  module _ (a : AccessValue) (pre : Pre) (is : asked ≡ Reach a pre) where
    load_moves : (split : Bool) (rd : ℕ) (post : Post) (c : Cell) → cell_at m a.addr ≡ Some c → Moves (loaded split s rd post (Got a c))
    unfolding plain memory_after
    load_moves true rd posts.Keep c at = record { other = tt; queue = tt; memory = MemoryMove.stays refl }
    load_moves true rd posts.Full c at = record { other = tt; queue = tt; memory = MemoryMove.writes a pre c (record c { full = true }) is at refl }
    load_moves true rd posts.Empty c at = record { other = tt; queue = tt; memory = MemoryMove.writes a pre c (record c { full = false }) is at refl }
    load_moves false rd posts.Keep c at = record { other = tt; queue = tt; memory = MemoryMove.stays refl }
    load_moves false rd posts.Full c at = record { other = tt; queue = tt; memory = MemoryMove.writes a pre c (record c { full = true }) is at refl }
    load_moves false rd posts.Empty c at = record { other = tt; queue = tt; memory = MemoryMove.writes a pre c (record c { full = false }) is at refl }

    store_moves : (w : Word) (post : Post) (c : Cell) → cell_at m a.addr ≡ Some c → Moves (stored s w post (Got a c))
    unfolding plain memory_after
    store_moves w post c at = record { other = tt; queue = tt; memory = MemoryMove.writes a pre c (record { word = w; full = full_after post c.full }) is at refl }

    loaded_moves : (split : Bool) (rd : ℕ) (post : Post) (o : Option Cell) → cell_at m a.addr ≡ o → Moves (loaded split s rd post (reached a pre o))
    loaded_moves split rd post None at = tt
    loaded_moves split rd post (Some c) at = by (passes pre c.full)
      where
        by : (b : Bool) → Moves (loaded split s rd post (if b then Got a c else Refused cause.Sync))
        by true = load_moves split rd post c at
        by false = tt

    stored_moves : (w : Word) (post : Post) (o : Option Cell) → cell_at m a.addr ≡ o → Moves (stored s w post (reached a pre o))
    stored_moves w post None at = tt
    stored_moves w post (Some c) at = by (passes pre c.full)
      where
        by : (b : Bool) → Moves (stored s w post (if b then Got a c else Refused cause.Sync))
        by true = store_moves w post c at
        by false = tt

  -- events

  event_moves : asked ≡ NextEvent → (rd : ℕ) (q : List Event) → queue_at core s.number ≡ q → Moves (takes s rd (first_event core q))
  unfolding plain memory_after
  event_moves is rd [] at = tt
  event_moves is rd (e ∷ rest) at = by (slot_at core e.slot) refl
    where
      by : (o : Option Slot) → slot_at core e.slot ≡ o → Moves (takes s rd (event_reply e rest o))
      by None absent = tt
      by (Some of) there =
          let number = slot_at-number core e.slot of there in
          record {
            other = OtherMove.takes_first of e rest is at (sym number) (ap (slot_at core) number ∙ there) refl;
            queue = (is, (e, at));
            memory = MemoryMove.stays refl;
          }

  -- a slot that is served

  module _ (k : ℕ) (is : asked ≡ Serve k) where
    serve_moves : (f : Reply → Effect) → ((c : Cause) → Moves (f (Refused c)))
        → ((of : Slot) → slot_at core k ≡ Some of → Moves (f (Served of))) → (o : Option Slot) → slot_at core k ≡ o
        → Moves (f (served s.number o))
    serve_moves f denied done None at = denied cause.NoSlot
    serve_moves f denied done (Some of) at = by (is_handler s.number of.handler && is_taken of.state)
      where
        by : (b : Bool) → Moves (f (if b then Served of else Refused cause.NoSlot))
        by true = done of at
        by false = denied cause.NoSlot

    other_moves : (of o : Slot) → slot_at core k ≡ Some of → SlotMove of o → o.turns ≡ of.turns → OtherMove core s.number asked o
    other_moves of o at move turns =
        let number : o.number ≡ k = move.number ∙ slot_at-number core k of at in
        OtherMove.serves of (is ∙ ap Serve (sym number)) (ap (slot_at core) number ∙ at) move turns

    resume_moves : (how : How) (of : Slot) → slot_at core k ≡ Some of → Moves (resumes s how (Served of))
    unfolding plain memory_after
    resume_moves how of at = record { other = other_moves of (resumed_by how of) at (by how) (same how); queue = tt; memory = MemoryMove.stays refl }
      where
        by : (how : How) → SlotMove of (resumed_by how of)
        by Retry = record { number = refl; group = refl; handler = refl; loads = LoadsMove.stay refl refl }
        by Skip = record { number = refl; group = refl; handler = refl; loads = LoadsMove.stay refl refl }
        by Kill = record { number = refl; group = refl; handler = refl; loads = LoadsMove.stay refl refl }

        same : (how : How) → (resumed_by how of).turns ≡ of.turns
        same Retry = refl
        same Skip = refl
        same Kill = refl

    deliver_moves : (of : Slot) → slot_at core k ≡ Some of → OtherMove core s.number asked (delivered of)
    deliver_moves of at = other_moves of (delivered of) at (delivered_move of) (delivered_turns of)

    read_moves : (split : Bool) (rd reg : ℕ) (of : Slot) → slot_at core k ≡ Some of → Moves (reads_of split s rd reg (Served of))
    read_moves split rd reg of at = if_moves (split && is_empty of reg) (Deliver (delivered of)) (sets s rd (register of reg)) (deliver_moves of at) (sets_moves rd (register of reg))

    write_moves : (split : Bool) (reg : ℕ) (w : Word) (of : Slot) → slot_at core k ≡ Some of → Moves (writes_of split s reg w (Served of))
    unfolding plain memory_after
    write_moves split reg w of at = if_moves (split && is_empty of reg) (Deliver (delivered of))
        (Do (record (plain s) { other = Some (record of { regs = slice_set of.regs reg w }) })) (deliver_moves of at)
        done
      where
        done : Moves (Do (record (plain s) { other = Some (record of { regs = slice_set of.regs reg w }) }))
        done = record {
          other = other_moves of (record of { regs = slice_set of.regs reg w }) at
              (record { number = refl; group = refl; handler = refl; loads = LoadsMove.stay refl refl }) refl;
          queue = tt;
          memory = MemoryMove.stays refl;
        }

  -- pages

  map_moves : (rd page : ℕ) (b : Bool) → asked ≡ MapPage page → can_map m page ≡ b → Moves (maps s rd (Paged page b))
  unfolding plain memory_after
  map_moves rd page true is can = record { other = tt; queue = tt; memory = MemoryMove.maps_page page is (can_map-facts m page can).0 refl }
  map_moves rd page false is can = sets_moves rd (Int 0)

  unmap_moves : (rd page : ℕ) (b : Bool) → asked ≡ UnmapPage page → is_mapped m page ≡ b → Moves (unmaps s rd (Paged page b))
  unfolding plain memory_after
  unmap_moves rd page true is mapped = record { other = tt; queue = tt; memory = MemoryMove.removes_page page is mapped refl }
  unmap_moves rd page false is mapped = sets_moves rd (Int 0)

module _ (core : Core) (m : Memory) (s : Slot) where
  load_row : (split : Bool) (rd : ℕ) (pre : Pre) (post : Post) (r : Result AccessValue Cause) → EffectMoves core m s (reaching r pre) (loaded split s rd post (reply core m s.number (reaching r pre)))
  unfolding reply
  load_row split rd pre post (Ok a) = loaded_moves core m s (Reach a pre) a pre refl split rd post (cell_at m a.addr) refl
  load_row split rd pre post (Err c) = tt

  store_row : (w : Word) (pre : Pre) (post : Post) (r : Result AccessValue Cause) → EffectMoves core m s (reaching r pre) (stored s w post (reply core m s.number (reaching r pre)))
  unfolding reply
  store_row w pre post (Ok a) = stored_moves core m s (Reach a pre) a pre refl w post (cell_at m a.addr) refl
  store_row w pre post (Err c) = tt

  map_row : (rd page : ℕ) (b c : Bool) → let asked = if b then (if c then MapPage page else Refuse cause.Bounds) else
      Refuse cause.Priv in EffectMoves core m s asked (maps s rd (reply core m s.number asked))
  unfolding reply
  map_row rd page true true = map_moves core m s (MapPage page) rd page (can_map m page) refl refl
  map_row rd page true false = tt
  map_row rd page false c = tt

  unmap_row : (rd page : ℕ) (b c : Bool) → let asked = if b then (if c then UnmapPage page else Refuse cause.Bounds)
      else Refuse cause.Priv in EffectMoves core m s asked (unmaps s rd (reply core m s.number asked))
  unfolding reply
  unmap_row rd page true true = unmap_moves core m s (UnmapPage page) rd page (is_mapped m page) refl refl
  unmap_row rd page true false = tt
  unmap_row rd page false c = tt

  abbrev ThreadRow : Instr → Type 0
  ThreadRow i = EffectMoves core m s (ask i s) (effect core.split i s (reply core m s.number (ask i s)))

  pub effect_moves : (i : Instr) → ThreadRow i
  unfolding effect ask reply
  effect_moves Halt = halt_moves core m s Nothing
  effect_moves Nop = plain_moves core m s Nothing
  effect_moves (Ldi rd imm) = sets_moves core m s Nothing rd (Int (cast_unsigned w64 imm))
  effect_moves (Ldhi rd imm) = sets_moves core m s Nothing rd (Int (high_and_low (word_bits (register s rd)) imm))
  effect_moves (Mov rd ra) = sets_moves core m s Nothing rd (register s ra)
  effect_moves (Isptr rd ra) = sets_moves core m s Nothing rd (Int (test (is_pointer (register s ra))))
  effect_moves (Eqw rd ra rb) = sets_moves core m s Nothing rd (Int (test (same_word (register s ra) (register s rb))))
  effect_moves (Out ra) = out_moves core m s (Room s.group) (word_bits (register s ra) % 256) (nat_lt (length (output_of core s.group)) (output_limit core.version))
  effect_moves (SelfSlot rd) = sets_moves core m s Nothing rd (Int s.number)
  effect_moves (Alu op rd ra rb) = number_moves core m s Nothing rd (alu_result op (word_bits (register s ra)) (word_bits (register s rb)))
  effect_moves (Addi rd ra imm) = sets_moves core m s Nothing rd (Int ((word_bits (register s ra) + cast_unsigned w64 imm) % 2 ^ 64))
  effect_moves (Lea rd ra rb) = through_moves core m s Nothing (register s ra)
      (λ p. sets_pointer s rd (lea_result p (cast_signed w64 (word_bits (register s rb)))))
      (λ p. pointer_moves core m s Nothing rd (lea_result p (cast_signed w64 (word_bits (register s rb)))))
  effect_moves (Leai rd ra imm) = through_moves core m s Nothing (register s ra) (λ p. sets_pointer s rd (lea_result p imm)) (λ p. pointer_moves core m s Nothing rd (lea_result p imm))
  effect_moves (Leab rd ra rb) = through_moves core m s Nothing (register s ra)
      (λ p. sets_pointer s rd (leab_result p (cast_signed w64 (word_bits (register s rb)))))
      (λ p. pointer_moves core m s Nothing rd (leab_result p (cast_signed w64 (word_bits (register s rb)))))
  effect_moves (Restrict rd ra rb) = through_moves core m s Nothing (register s ra)
      (λ p. sets_pointer s rd (restrict_result p (word_bits (register s rb))))
      (λ p. pointer_moves core m s Nothing rd (restrict_result p (word_bits (register s rb))))
  effect_moves (Subseg rd ra rb) = through_moves core m s Nothing (register s ra)
      (λ p. sets_pointer s rd (subseg_result p (word_bits (register s rb))))
      (λ p. pointer_moves core m s Nothing rd (subseg_result p (word_bits (register s rb))))
  effect_moves (Setptr rd ra) = if_moves core m s Nothing (is_privileged s.ip.perm)
      (sets_pointer s rd (setptr_result (word_bits (register s ra)))) (Fault cause.Priv)
      (pointer_moves core m s Nothing rd (setptr_result (word_bits (register s ra)))) tt
  effect_moves (Ld rd ra pre post imm) = load_row core.split rd pre post (check_result (register s ra) imm (load_kind post))
  effect_moves (St ra rb pre post imm) = store_row (register s rb) pre post (check_result (register s ra) imm Store)
  effect_moves (Br imm) = branch_moves core m s Nothing (at_distance s imm)
  effect_moves (Bz ra imm) = if_moves core m s Nothing (word_bits (register s ra) == 0) (branches s (at_distance s imm))
      (Do (plain s)) (branch_moves core m s Nothing (at_distance s imm)) (plain_moves core m s Nothing)
  effect_moves (Bnz ra imm) = if_moves core m s Nothing (word_bits (register s ra) == 0) (Do (plain s))
      (branches s (at_distance s imm)) (plain_moves core m s Nothing)
      (branch_moves core m s Nothing (at_distance s imm))
  effect_moves (Jmp ra) = through_moves core m s Nothing (register s ra) (λ p. jumps s p (enter_result p)) (λ p. jump_moves core m s Nothing p (enter_result p))
  effect_moves (Jal rd ra) = through_moves core m s Nothing (register s ra)
      (λ p. links s rd p (enter_result p) (next_result s.ip)) (λ p. link_moves core m s Nothing rd p (enter_result p)
      (next_result s.ip))
  effect_moves (Lip rd imm) = pointer_moves core m s Nothing rd (at_distance s imm)
  effect_moves (Trap imm) = tt
  effect_moves (Evt rd) = event_moves core m s NextEvent refl rd (queue_at core s.number) refl
  effect_moves (Resume ra how) = let k = word_bits (register s ra) in serve_moves core m s (Serve k) k refl
      (resumes s how) (λ c. tt) (λ of at. resume_moves core m s (Serve k) k refl how of at) (slot_at core k) refl
  effect_moves (Rreg rd ra reg) = let k = word_bits (register s ra) in serve_moves core m s (Serve k) k refl
      (reads_of core.split s rd reg) (λ c. tt) (λ of at. read_moves core m s (Serve k) k refl core.split rd reg of at)
      (slot_at core k) refl
  effect_moves (Wreg ra rb reg) = let k = word_bits (register s ra) in serve_moves core m s (Serve k) k refl
      (writes_of core.split s reg (register s rb)) (λ c. tt) (λ of at. write_moves core m s (Serve k) k refl core.split
      reg (register s rb) of at) (slot_at core k) refl
  effect_moves (Map rd ra) = map_row rd (word_bits (register s ra)) (is_privileged s.ip.perm) (nat_lt (word_bits (register s ra)) (2 ^ 42))
  effect_moves (Unmap rd ra) = unmap_row rd (word_bits (register s ra)) (is_privileged s.ip.perm) (nat_lt (word_bits (register s ra)) (2 ^ 42))
