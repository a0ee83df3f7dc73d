-- A turn reads no count of turns, so it is the same in a core without these counts, but for them.
use Rattle.std.proofs.Common.{◌≡◌, ℕ, ◌+◌, ◌-◌, Bool, true, false, ◌&&◌, ◌||◌, ◌==◌, nat_le, if◌then◌else◌, ℤ}
use Rattle.std.proofs.Common.{slice_set, List, [], ◌∷◌, ◌++◌, map, Option, Some, None, Result, Ok, Err, refl, sym, ap}
use Rattle.std.{proofs.Common.◌∙◌, specs.{Int.{w64, cast_signed}, List.list_any, Prelude.option_map}}
use Rattle.mm_word.specs.declared.cause.Cause.{Cause}
use Rattle.mm_word.specs.declared.word.{Pre.Pre, Post.Post, Word.{Word, TheVariants.{Int, Ptr}}, Cell.Cell}
use Rattle.mm_word.specs.{Access.AccessValue, Word.word_bits}
use Rattle.mm_word.specs.Pointer.{Pointer, lea_result, leab_result, restrict_result, subseg_result, setptr_result}
use Rattle.mm_word.specs.Pointer.{next_result, enter_result}
use Rattle.mm_isa.specs.declared.instr.{DivZero.DivZero, How.{How, TheVariants.{Retry, Skip, Kill}}}
use Rattle.mm_isa.specs.declared.instr.Instr.{Instr}
use Rattle.mm_isa.specs.declared.instr.Instr.TheVariants.{Out, Alu, Lea, Leai, Leab, Restrict, Subseg, Setptr, Ld, St}
use Rattle.mm_isa.specs.declared.instr.Instr.TheVariants.{Br, Bz, Bnz, Jmp, Jal, Lip, Evt, Resume, Rreg, Wreg, Map}
use Rattle.mm_isa.specs.{declared.instr.Instr.TheVariants.Unmap, Alu.alu_result}
use Rattle.mm_model.specs.declared.slot.{SlotState.TheVariants.{Running, Waiting, Halted}, Pending.Pending}
use Rattle.mm_model.specs.{declared.event.Event.Event, Memory.{Memory, cell_at, passes}, Uses.Use}
use Rattle.mm_model.specs.Slot.{Slot, register, is_empty}
use Rattle.mm_model.specs.State.{ThreadRow, Core, row_in, slot_of, queue_of, slot_at, queue_at, at_number, put_slot}
use Rattle.mm_model.specs.State.{put_queue, output_of, put_output}
use Rattle.mm_model.specs.Operands.{addr_operand, value_operand, field_a, field_b, field_imm, fields_d, word_a, word_b}
use Rattle.mm_model.specs.Operands.{field_empty, lacks}
use Rattle.mm_model.specs.Ask.{Ask, ask, is_privileged}
use Rattle.mm_model.specs.Ask.Ask.{Nothing, Refuse, Reach, MapPage, UnmapPage, NextEvent, Room, Serve}
use Rattle.mm_model.specs.Effect.{Reply, Change, Effect, effect, delivers, delivered, sets, sets_pointer, sets_number}
use Rattle.mm_model.specs.Effect.{if_pointer, puts_out, loaded, stored, at_distance, branches, jumps, links, takes}
use Rattle.mm_model.specs.Effect.{resumed_by, resumes, reads_of, writes_of, maps, unmaps, plain}
use Rattle.mm_model.specs.Effect.Reply.{Fine, Refused, Got, Paged, NoEvent, Took, Served}
use Rattle.mm_model.specs.Effect.Effect.{Fault, Block, Deliver, Do}
use Rattle.mm_model.specs.Turn.{Turned, reached, event_reply, first_event, is_handler, is_taken, served, reply, put_all}
use Rattle.mm_model.specs.Turn.{state_after, slot_after, with_issue, with_other, with_queue, with_out, core_after}
use Rattle.mm_model.specs.Turn.{memory_after, stood, is_sync, event_of, core_faulted, faulted, touch_of, asked_use}
use Rattle.mm_model.specs.Turn.{blocked, ended, executed, started, idle, arrives, port_of, turn}
use Rattle.mm_model.proofs.TurnShapes.{fetch_uses, fetch_use, started_by, turn_both}
use Rattle.mm_config.specs.Configurations.{uncounted_slot, uncounted_row, uncounted}
use Rattle.mm_word.specs.declared.cause.Cause.TheVariants as cause

-- 1. Cores without counts of turns.

rows_again : (rows : List ThreadRow) → map uncounted_row (map uncounted_row rows) ≡ map uncounted_row rows
rows_again [] = refl
rows_again (row ∷ rows) = ap (λ l. uncounted_row row ∷ l) (rows_again rows)

pub uncounted_again : (core : Core) → uncounted (uncounted core) ≡ uncounted core
uncounted_again core = ap (λ (rows : List ThreadRow). record core { rows = rows }) (rows_again core.rows)

put_rows : (n : ℕ) (s : Slot) (rows : List ThreadRow)
    → map uncounted_row (map (at_number n (λ row. record row { slot = s })) rows)
    ≡ map (at_number n (λ row. record row { slot = uncounted_slot s })) (map uncounted_row rows)
put_rows n s [] = refl
put_rows n s (row ∷ rows) =
    ap (λ x. x ∷ map uncounted_row (map (at_number n (λ row. record row { slot = s })) rows)) (by (row.slot.number == n))
    ∙ ap (λ l. at_number n (λ row. record row { slot = uncounted_slot s }) (uncounted_row row) ∷ l) (put_rows n s rows)
  where
    by : (b : Bool) → uncounted_row (if b then record row { slot = s } else row)
        ≡ (if b then record (uncounted_row row) { slot = uncounted_slot s } else uncounted_row row)
    by true = refl
    by false = refl

put_slot_so : (core : Core) (s : Slot) → uncounted (put_slot core s) ≡ put_slot (uncounted core) (uncounted_slot s)
unfolding put_slot
put_slot_so core s = ap (λ (rows : List ThreadRow). record core { rows = rows }) (put_rows s.number s core.rows)

queue_rows : (n : ℕ) (q : List Event) (rows : List ThreadRow)
    → map uncounted_row (map (at_number n (λ row. record row { queue = q })) rows)
    ≡ map (at_number n (λ row. record row { queue = q })) (map uncounted_row rows)
queue_rows n q [] = refl
queue_rows n q (row ∷ rows) =
    ap (λ x. x ∷ map uncounted_row (map (at_number n (λ row. record row { queue = q })) rows)) (by (row.slot.number == n))
    ∙ ap (λ l. at_number n (λ row. record row { queue = q }) (uncounted_row row) ∷ l) (queue_rows n q rows)
  where
    by : (b : Bool) → uncounted_row (if b then record row { queue = q } else row)
        ≡ (if b then record (uncounted_row row) { queue = q } else uncounted_row row)
    by true = refl
    by false = refl

put_queue_so : (core : Core) (n : ℕ) (q : List Event) → uncounted (put_queue core n q) ≡ put_queue (uncounted core) n q
unfolding put_queue
put_queue_so core n q = ap (λ (rows : List ThreadRow). record core { rows = rows }) (queue_rows n q core.rows)

abbrev pub uncounted_found : Option ThreadRow → Option ThreadRow
uncounted_found None = None
uncounted_found (Some row) = Some (uncounted_row row)

abbrev pub uncounted_one : Option Slot → Option Slot
uncounted_one o = option_map uncounted_slot o

row_in_so : (rows : List ThreadRow) (n : ℕ) → row_in (map uncounted_row rows) n ≡ uncounted_found (row_in rows n)
row_in_so [] n = refl
row_in_so (row ∷ rows) n = by (row.slot.number == n) (row_in_so rows n)
  where
    by : (b : Bool) → row_in (map uncounted_row rows) n ≡ uncounted_found (row_in rows n)
        → (if b then Some (uncounted_row row) else row_in (map uncounted_row rows) n)
        ≡ uncounted_found (if b then Some row else row_in rows n)
    by true rest = refl
    by false rest = rest

slot_of_so : (o : Option ThreadRow) → slot_of (uncounted_found o) ≡ uncounted_one (slot_of o)
slot_of_so None = refl
slot_of_so (Some row) = refl

queue_of_so : (o : Option ThreadRow) → queue_of (uncounted_found o) ≡ queue_of o
queue_of_so None = refl
queue_of_so (Some row) = refl

pub slot_at_so : (core : Core) (n : ℕ) → slot_at (uncounted core) n ≡ uncounted_one (slot_at core n)
unfolding slot_at
slot_at_so core n = ap slot_of (row_in_so core.rows n) ∙ slot_of_so (row_in core.rows n)

pub queue_at_so : (core : Core) (n : ℕ) → queue_at (uncounted core) n ≡ queue_at core n
unfolding queue_at
queue_at_so core n = ap queue_of (row_in_so core.rows n) ∙ queue_of_so (row_in core.rows n)

-- 2. What is put into cores that are the same without counts.

put_same : (a b : Core) (s t : Slot) → uncounted a ≡ uncounted b → uncounted_slot s ≡ uncounted_slot t
    → uncounted (put_slot a s) ≡ uncounted (put_slot b t)
put_same a b s t e f =
    put_slot_so a s ∙ ap (λ c. put_slot c (uncounted_slot s)) e ∙ ap (put_slot (uncounted b)) f ∙ sym (put_slot_so b t)

queue_same : (a b : Core) (n : ℕ) (q r : List Event) → uncounted a ≡ uncounted b → q ≡ r
    → uncounted (put_queue a n q) ≡ uncounted (put_queue b n r)
queue_same a b n q r e f =
    put_queue_so a n q ∙ ap (λ c. put_queue c n q) e ∙ ap (put_queue (uncounted b) n) f ∙ sym (put_queue_so b n r)

output_same : (a b : Core) (g : ℕ) (byte : ℕ) → uncounted a ≡ uncounted b
    → uncounted (put_output a g (output_of a g ++ byte ∷ [])) ≡ uncounted (put_output b g (output_of b g ++ byte ∷ []))
unfolding put_output output_of
output_same a b g byte e =
    let f : Core → Core = λ c. put_output c g (output_of c g ++ byte ∷ []) in ap f e

queue_of_same : (a b : Core) (n : ℕ) → uncounted a ≡ uncounted b → queue_at a n ≡ queue_at b n
queue_of_same a b n e = sym (queue_at_so a n) ∙ ap (λ c. queue_at c n) e ∙ queue_at_so b n

-- 3. Replies and effects without counts.

abbrev pub uncounted_reply : Reply → Reply
uncounted_reply (Took e rest of) = Took e rest (uncounted_slot of)
uncounted_reply (Served of) = Served (uncounted_slot of)
uncounted_reply Fine = Fine
uncounted_reply (Refused c) = Refused c
uncounted_reply (Got a c) = Got a c
uncounted_reply (Paged page done) = Paged page done
uncounted_reply NoEvent = NoEvent

abbrev pub uncounted_effect : Effect → Effect
uncounted_effect (Fault c) = Fault c
uncounted_effect Block = Block
uncounted_effect (Deliver other) = Deliver (uncounted_slot other)
uncounted_effect (Do c) = Do (record c { other = uncounted_one c.other })

module _ (core : Core) (m : Memory) where
  reached_so : (a : AccessValue) (pre : Pre) (o : Option Cell) → reached a pre o ≡ uncounted_reply (reached a pre o)
  reached_so a pre None = refl
  reached_so a pre (Some c) = by (passes pre c.full)
    where
      by : (b : Bool) → (if b then Got a c else Refused cause.Sync) ≡ uncounted_reply (if b then Got a c else Refused cause.Sync)
      by true = refl
      by false = refl

  event_so : (e : Event) (rest : List Event) (o : Option Slot) → event_reply e rest (uncounted_one o) ≡ uncounted_reply (event_reply e rest o)
  event_so e rest None = refl
  event_so e rest (Some of) = refl

  events_so : (q : List Event) → first_event (uncounted core) q ≡ uncounted_reply (first_event core q)
  events_so [] = refl
  events_so (e ∷ rest) = ap (event_reply e rest) (slot_at_so core e.slot) ∙ event_so e rest (slot_at core e.slot)

  served_so : (n : ℕ) (o : Option Slot) → served n (uncounted_one o) ≡ uncounted_reply (served n o)
  served_so n None = refl
  served_so n (Some of) = by (is_handler n of.handler && is_taken of.state)
    where
      by : (b : Bool) → (if b then Served (uncounted_slot of) else Refused cause.NoSlot) ≡ uncounted_reply (if b then Served of else Refused cause.NoSlot)
      by true = refl
      by false = refl

  room_so : (b : Bool) → (if b then Fine else Refused cause.OutFull) ≡ uncounted_reply (if b then Fine else Refused cause.OutFull)
  room_so true = refl
  room_so false = refl

  reply_so : (n : ℕ) (asked : Ask) → reply (uncounted core) m n asked ≡ uncounted_reply (reply core m n asked)
  unfolding reply output_of
  reply_so n Nothing = refl
  reply_so n (Refuse c) = refl
  reply_so n (Reach a pre) = reached_so a pre (cell_at m a.addr)
  reply_so n (MapPage page) = refl
  reply_so n (UnmapPage page) = refl
  reply_so n NextEvent = ap (first_event (uncounted core)) (queue_at_so core n) ∙ events_so (queue_at core n)
  reply_so n (Room g) = room_so _
  reply_so n (Serve k) = ap (served n) (slot_at_so core k) ∙ served_so n (slot_at core k)

-- the same effect without counts
abbrev SameEffect : Effect → Effect → Type 0
SameEffect x y = uncounted_effect x ≡ uncounted_effect y

either : (b : Bool) (x x' y y' : Effect) → SameEffect x x' → SameEffect y y' → SameEffect (if b then x else y) (if b then x' else y')
either true x x' y y' e f = e
either false x x' y y' e f = f

delivers_so : (s : Slot) (loads : List Pending) → uncounted_slot (delivers s loads) ≡ uncounted_slot (delivers (uncounted_slot s) loads)
delivers_so s [] = refl
delivers_so s (p ∷ rest) = refl

delivered_so : (s : Slot) → uncounted_slot (delivered s) ≡ uncounted_slot (delivered (uncounted_slot s))
unfolding delivered
delivered_so s = delivers_so s s.pending

resumed_so : (how : How) (of : Slot) → uncounted_slot (resumed_by how of) ≡ uncounted_slot (resumed_by how (uncounted_slot of))
resumed_so Retry of = refl
resumed_so Skip of = refl
resumed_so Kill of = refl

module _ (s : Slot) where
  abbrev u : Slot
  u = uncounted_slot s

  pointer_so : (rd : ℕ) (r : Result Pointer Cause) → SameEffect (sets_pointer s rd r) (sets_pointer u rd r)
  unfolding plain
  pointer_so rd (Ok p) = refl
  pointer_so rd (Err c) = refl

  number_so : (rd : ℕ) (r : Result ℕ DivZero) → SameEffect (sets_number s rd r) (sets_number u rd r)
  unfolding plain
  number_so rd (Ok n) = refl
  number_so rd (Err e) = refl

  if_pointer_so : (w : Word) (f g : Pointer → Effect) → ((p : Pointer) → SameEffect (f p) (g p)) → SameEffect (if_pointer w f) (if_pointer w g)
  if_pointer_so (Int b) f g h = refl
  if_pointer_so (Ptr p) f g h = h p

  out_so : (byte : ℕ) (r : Reply) → SameEffect (puts_out s byte r) (puts_out u byte (uncounted_reply r))
  unfolding plain
  out_so byte Fine = refl
  out_so byte _ = refl

  loaded_by : (split : Bool) (rd : ℕ) (post : Post) (a : AccessValue) (c : Cell) → SameEffect (loaded split s rd post (Got a c)) (loaded split u rd post (Got a c))
  unfolding plain
  loaded_by true rd post a c = refl
  loaded_by false rd post a c = refl

  loaded_so : (split : Bool) (rd : ℕ) (post : Post) (r : Reply) → SameEffect (loaded split s rd post r) (loaded split u rd post (uncounted_reply r))
  loaded_so split rd post (Got a c) = loaded_by split rd post a c
  loaded_so split rd post _ = refl

  stored_so : (w : Word) (post : Post) (r : Reply) → SameEffect (stored s w post r) (stored u w post (uncounted_reply r))
  unfolding plain
  stored_so w post (Got a c) = refl
  stored_so w post _ = refl

  branches_so : (r : Result Pointer Cause) → SameEffect (branches s r) (branches u r)
  unfolding plain
  branches_so (Ok p) = refl
  branches_so (Err c) = refl

  jumps_so : (p : Pointer) (o : Option Pointer) → SameEffect (jumps s p o) (jumps u p o)
  unfolding plain
  jumps_so p None = refl
  jumps_so p (Some to) = refl

  links_so : (rd : ℕ) (p : Pointer) (o b : Option Pointer) → SameEffect (links s rd p o b) (links u rd p o b)
  unfolding plain
  links_so rd p None b = refl
  links_so rd p (Some to) None = refl
  links_so rd p (Some to) (Some back) = refl

  takes_so : (rd : ℕ) (r : Reply) → SameEffect (takes s rd r) (takes u rd (uncounted_reply r))
  unfolding plain
  takes_so rd (Took e rest of) = refl
  takes_so rd _ = refl

  resumes_so : (how : How) (r : Reply) → SameEffect (resumes s how r) (resumes u how (uncounted_reply r))
  unfolding plain
  resumes_so how (Served of) = ap (λ (o : Slot). Do (record (plain s) { other = Some o })) (resumed_so how of)
  resumes_so how _ = refl

  reads_so : (split : Bool) (rd reg : ℕ) (r : Reply) → SameEffect (reads_of split s rd reg r) (reads_of split u rd reg (uncounted_reply r))
  unfolding plain is_empty register
  reads_so split rd reg (Served of) =
      either (split && is_empty of reg) (Deliver (delivered of)) (Deliver (delivered (uncounted_slot of))) (sets s rd (register of reg)) (sets u rd (register of reg))
      (ap Deliver (delivered_so of)) refl
  reads_so split rd reg _ = refl

  abbrev writes_other : Slot → Slot → ℕ → Word → Effect
  writes_other s of reg w = Do (record (plain s) { other = Some (record of { regs = slice_set of.regs reg w }) })

  writes_so : (split : Bool) (reg : ℕ) (w : Word) (r : Reply) → SameEffect (writes_of split s reg w r) (writes_of split u reg w (uncounted_reply r))
  unfolding plain is_empty register
  writes_so split reg w (Served of) =
      either (split && is_empty of reg) (Deliver (delivered of)) (Deliver (delivered (uncounted_slot of))) (writes_other s of reg w) (writes_other u (uncounted_slot of) reg w)
      (ap Deliver (delivered_so of)) refl
  writes_so split reg w _ = refl

  maps_so : (rd : ℕ) (r : Reply) → SameEffect (maps s rd r) (maps u rd (uncounted_reply r))
  unfolding plain
  maps_so rd (Paged page true) = refl
  maps_so rd (Paged page false) = refl
  maps_so rd _ = refl

  unmaps_so : (rd : ℕ) (r : Reply) → SameEffect (unmaps s rd r) (unmaps u rd (uncounted_reply r))
  unfolding plain
  unmaps_so rd (Paged page true) = refl
  unmaps_so rd (Paged page false) = refl
  unmaps_so rd _ = refl

  effect_so : (split : Bool) (i : Instr) (r : Reply) → SameEffect (effect split i s r) (effect split i u (uncounted_reply r))
  unfolding effect plain register
  effect_so split (Out ra) r = out_so _ r
  effect_so split (Alu op rd ra rb) r = number_so rd (alu_result op (word_bits (register s ra)) (word_bits (register s rb)))
  effect_so split (Lea rd ra rb) r = if_pointer_so (register s ra) _ _ (λ p. pointer_so rd (lea_result p (cast_signed w64 (word_bits (register s rb)))))
  effect_so split (Leai rd ra imm) r = if_pointer_so (register s ra) _ _ (λ p. pointer_so rd (lea_result p imm))
  effect_so split (Leab rd ra rb) r = if_pointer_so (register s ra) _ _ (λ p. pointer_so rd (leab_result p (cast_signed w64 (word_bits (register s rb)))))
  effect_so split (Restrict rd ra rb) r = if_pointer_so (register s ra) _ _ (λ p. pointer_so rd (restrict_result p (word_bits (register s rb))))
  effect_so split (Subseg rd ra rb) r = if_pointer_so (register s ra) _ _ (λ p. pointer_so rd (subseg_result p (word_bits (register s rb))))
  effect_so split (Setptr rd ra) r =
      either (is_privileged s.ip.perm) (sets_pointer s rd (setptr_result (word_bits (register s ra))))
      (sets_pointer u rd (setptr_result (word_bits (register s ra)))) (Fault cause.Priv) (Fault cause.Priv)
      (pointer_so rd (setptr_result (word_bits (register s ra)))) refl
  effect_so split (Ld rd ra pre post imm) r = loaded_so split rd post r
  effect_so split (St ra rb pre post imm) r = stored_so (register s rb) post r
  effect_so split (Br imm) r = branches_so (at_distance s imm)
  effect_so split (Bz ra imm) r =
      either (word_bits (register s ra) == 0) (branches s (at_distance s imm)) (branches u (at_distance s imm)) (Do (plain s)) (Do (plain u)) (branches_so (at_distance s imm)) refl
  effect_so split (Bnz ra imm) r =
      either (word_bits (register s ra) == 0) (Do (plain s)) (Do (plain u)) (branches s (at_distance s imm)) (branches u (at_distance s imm)) refl (branches_so (at_distance s imm))
  effect_so split (Jmp ra) r = if_pointer_so (register s ra) _ _ (λ p. jumps_so p (enter_result p))
  effect_so split (Jal rd ra) r = if_pointer_so (register s ra) _ _ (λ p. links_so rd p (enter_result p) (next_result s.ip))
  effect_so split (Lip rd imm) r = pointer_so rd (at_distance s imm)
  effect_so split (Evt rd) r = takes_so rd r
  effect_so split (Resume ra how) r = resumes_so how r
  effect_so split (Rreg rd ra reg) r = reads_so split rd reg r
  effect_so split (Wreg ra rb reg) r = writes_so split reg (register s rb) r
  effect_so split (Map rd ra) r = maps_so rd r
  effect_so split (Unmap rd ra) r = unmaps_so rd r
  effect_so split _ r = refl

  -- 4. What an instruction asks and names.

  ask_so : (i : Instr) → ask i u ≡ ask i s
  unfolding ask register
  ask_so (Out ra) = refl
  ask_so _ = refl

  word_a_so : (o : Option ℕ) → word_a u o ≡ word_a s o
  unfolding register
  word_a_so None = refl
  word_a_so (Some r) = refl

  word_b_so : (o : Option ℕ) (imm : ℤ) → word_b u o imm ≡ word_b s o imm
  unfolding register
  word_b_so None imm = refl
  word_b_so (Some r) imm = refl

  addr_so : (i : Instr) → addr_operand i u ≡ addr_operand i s
  unfolding addr_operand
  addr_so i = word_a_so (field_a i)

  value_so : (i : Instr) → value_operand i u ≡ value_operand i s
  unfolding value_operand
  value_so i = word_b_so (field_b i) (field_imm i)

  field_so : (o : Option ℕ) → field_empty u o ≡ field_empty s o
  unfolding is_empty
  field_so None = refl
  field_so (Some r) = refl

  empties_so : (rs : List ℕ) → list_any (is_empty u) rs ≡ list_any (is_empty s) rs
  unfolding is_empty
  empties_so rs = refl

  lacks_so : (i : Instr) → lacks i u ≡ lacks i s
  unfolding lacks
  lacks_so i =
      let any = list_any (is_empty s) (fields_d i) in
      ap (λ b. b || (field_empty u (field_a i) || field_empty u (field_b i))) (empties_so (fields_d i))
      ∙ ap (λ b. any || (b || field_empty u (field_b i))) (field_so (field_a i))
      ∙ ap (λ b. any || (field_empty s (field_a i) || b)) (field_so (field_b i))

-- 5. The turn.

-- a turn without counts of turns
abbrev pub uncounted_turn : Turned → Turned
uncounted_turn t = record t { core = uncounted t.core }

-- the same turn without these counts
abbrev pub SameTurn : Turned → Turned → Type 0
SameTurn t v = uncounted_turn t ≡ uncounted_turn v

module _ (core : Core) (m : Memory) where
  abbrev c' : Core
  c' = uncounted core

  self : uncounted core ≡ uncounted c'
  self = sym (uncounted_again core)

  stands_so : (s : Slot) → uncounted (put_slot core s) ≡ uncounted (put_slot c' (uncounted_slot s))
  stands_so s = put_same core c' s (uncounted_slot s) self refl

  fault_core : (s : Slot) (e : Event) (o : Option ℕ) → uncounted (core_faulted core s e o) ≡ uncounted (core_faulted c' (uncounted_slot s) e o)
  unfolding core_faulted
  fault_core s e (Some h) =
      let a = put_slot core (stood s Waiting) in
      let b = put_slot c' (stood (uncounted_slot s) Waiting) in
      let same = put_same core c' (stood s Waiting) (stood (uncounted_slot s) Waiting) self refl in
      queue_same a b h (queue_at a h ++ e ∷ []) (queue_at b h ++ e ∷ []) same (ap (λ q. q ++ e ∷ []) (queue_of_same a b h same))
  fault_core s e None = by (is_sync e.cause)
    where
      by : (b : Bool) → uncounted (if b then put_slot core (stood s Running) else put_slot core (stood s (Halted (Some e.cause))))
          ≡ uncounted (if b then put_slot c' (stood (uncounted_slot s) Running) else put_slot c' (stood (uncounted_slot s) (Halted (Some e.cause))))
      by true = put_same core c' (stood s Running) (stood (uncounted_slot s) Running) self refl
      by false = put_same core c' (stood s (Halted (Some e.cause))) (stood (uncounted_slot s) (Halted (Some e.cause))) self refl

  fault_so : (s : Slot) (c : Cause) (a w : Word) (f t : Option AccessValue) (us : List Use) → SameTurn (faulted core m s c a w f t us) (faulted c' m (uncounted_slot s) c a w f t us)
  unfolding faulted event_of
  fault_so s c a w f t us = ap (λ (k : Core). record (faulted core m s c a w f t us) { core = k }) (fault_core s (event_of s c a w) s.handler)

  abbrev moved : Slot → Change → Slot
  moved s c = record s { regs = put_all s.regs c.writes; ip = c.next; past = c.past; turns = s.turns + 1; state = state_after c.halts }

  issues_so : (s : Slot) (c : Change) (o : Option Pending) → uncounted_slot (with_issue (moved s c) o) ≡ uncounted_slot (with_issue (moved (uncounted_slot s) c) o)
  issues_so s c None = refl
  issues_so s c (Some p) = refl

  after_so : (s : Slot) (c : Change) → uncounted_slot (slot_after s c) ≡ uncounted_slot (slot_after (uncounted_slot s) c)
  unfolding slot_after
  after_so s c = issues_so s c c.issue

  abbrev bare : Change → Change
  bare c = record c { other = uncounted_one c.other }

  others_so : (o : Option Slot) → uncounted (with_other core o) ≡ uncounted (with_other c' (uncounted_one o))
  others_so None = self
  others_so (Some other) = stands_so other

  queues_so : (a b : Core) (n : ℕ) (q : Option (List Event)) → uncounted a ≡ uncounted b → uncounted (with_queue a n q) ≡ uncounted (with_queue b n q)
  queues_so a b n None e = e
  queues_so a b n (Some q) e = queue_same a b n q q e refl

  outs_so : (a b : Core) (g : ℕ) (byte : Option ℕ) → uncounted a ≡ uncounted b → uncounted (with_out a g byte) ≡ uncounted (with_out b g byte)
  outs_so a b g None e = e
  outs_so a b g (Some byte) e = output_same a b g byte e

  change_core : (s : Slot) (c : Change) → uncounted (core_after core s c) ≡ uncounted (core_after c' (uncounted_slot s) (bare c))
  unfolding core_after slot_after
  change_core s c =
      let s' = uncounted_slot s in
      let a = put_slot (with_other core c.other) (slot_after s c) in
      let b = put_slot (with_other c' (uncounted_one c.other)) (slot_after s' c) in
      outs_so (with_queue a s.number c.queue) (with_queue b s.number c.queue) s.group c.out
      (queues_so a b s.number c.queue
      (put_same (with_other core c.other) (with_other c' (uncounted_one c.other)) (slot_after s c) (slot_after s' c) (others_so c.other) (after_so s c)))

  block_so : (s : Slot) (f : AccessValue) (t : Option AccessValue) (us : List Use) → SameTurn (blocked core m s f t us) (blocked c' m (uncounted_slot s) f t us)
  unfolding blocked
  block_so s f t us =
      ap (λ (k : Core). record (blocked core m s f t us) { core = k }) (put_same core c' (stood s Running) (stood (uncounted_slot s) Running) self refl)

  deliver_so : (s other : Slot) (f : AccessValue) (t : Option AccessValue) (us : List Use)
      → SameTurn (blocked (put_slot core other) m s f t us) (blocked (put_slot c' (uncounted_slot other)) m (uncounted_slot s) f t us)
  unfolding blocked
  deliver_so s other f t us =
      ap (λ (k : Core). record (blocked core m s f t us) { core = k })
      (put_same (put_slot core other) (put_slot c' (uncounted_slot other)) (stood s Running) (stood (uncounted_slot s) Running) (stands_so other) refl)

  end_bare : (s : Slot) (i : Instr) (f : AccessValue) (t : Option AccessValue) (us : List Use) (y : Effect)
      → SameTurn (ended core m s i f t us y) (ended c' m (uncounted_slot s) i f t us (uncounted_effect y))
  unfolding ended memory_after
  end_bare s i f t us (Fault c) =
      fault_so s c (addr_operand i s) (value_operand i s) (Some f) t us
      ∙ ap (λ w. uncounted_turn (faulted c' m (uncounted_slot s) c w (value_operand i s) (Some f) t us)) (sym (addr_so s i))
      ∙ ap (λ w. uncounted_turn (faulted c' m (uncounted_slot s) c (addr_operand i (uncounted_slot s)) w (Some f) t us)) (sym (value_so s i))
  end_bare s i f t us Block = block_so s f t us
  end_bare s i f t us (Deliver other) = deliver_so s other f t us
  end_bare s i f t us (Do c) = ap (λ (k : Core). record (ended core m s i f t us (Do c)) { core = k }) (change_core s c)

module _ (core : Core) (m : Memory) where
  abbrev c'' : Core
  c'' = uncounted core

  end_so : (s : Slot) (i : Instr) (f : AccessValue) (t : Option AccessValue) (us : List Use) (y z : Effect) → SameEffect y z
      → SameTurn (ended core m s i f t us y) (ended c'' m (uncounted_slot s) i f t us z)
  end_so s i f t us y z e =
      let s' = uncounted_slot s in
      end_bare core m s i f t us y
      ∙ ap (λ x. uncounted_turn (ended c'' m s' i f t us x)) e
      ∙ ap (λ k. uncounted_turn (ended k m s' i f t us (uncounted_effect z))) (sym (uncounted_again core))
      ∙ sym (end_bare c'' m s' i f t us z)

  execute_so : (s : Slot) (f : AccessValue) (w : Use) (i : Instr) → SameTurn (executed core m s f w i) (executed c'' m (uncounted_slot s) f w i)
  unfolding executed
  execute_so s f w i =
      let s' = uncounted_slot s in
      let asked = ask i s in
      end_so s i f (touch_of asked) (w ∷ asked_use m asked) (effect core.split i s (reply core m s.number asked)) (effect core.split i s' (uncounted_reply (reply core m s.number asked)))
      (effect_so s core.split i (reply core m s.number asked))
      ∙ ap (λ r. uncounted_turn (ended c'' m s' i f (touch_of asked) (w ∷ asked_use m asked) (effect core.split i s' r))) (sym (reply_so core m s.number asked))
      ∙ ap (λ a. uncounted_turn (ended c'' m s' i f (touch_of a) (w ∷ asked_use m a) (effect core.split i s' (reply c'' m s.number a)))) (sym (ask_so s i))

  waits_so : (s : Slot) (f : AccessValue) (us : List Use) → SameTurn (blocked core m (delivered s) f None us) (blocked c'' m (delivered (uncounted_slot s)) f None us)
  waits_so s f us =
      block_so core m (delivered s) f None us
      ∙ ap (λ x. uncounted_turn (blocked c'' m x f None us)) (delivered_so s)
      ∙ ap (λ k. uncounted_turn (blocked k m (uncounted_slot (delivered (uncounted_slot s))) f None us)) (sym (uncounted_again core))
      ∙ sym (block_so c'' m (delivered (uncounted_slot s)) f None us)

  start_so : (s : Slot) → SameTurn (started core m s) (started c'' m (uncounted_slot s))
  start_so s = started_by core c'' m m s (uncounted_slot s) (record { past = refl; ip = refl; cells = λ f aim. refl; lacking = λ i. ap (λ b. core.split && b) (sym (lacks_so s i)) }) SameTurn (record {
    faults = λ c f done aim. fault_so core m s c (Int 0) (Int 0) f None (fetch_uses f done);
    lacks_register = λ f i aim is lacking. waits_so s f (fetch_use f ∷ []);
    carries_out = λ f i aim is has. execute_so s f (fetch_use f) i;
  })

  idle_so : (n : ℕ) → SameTurn (idle core m n) (idle c'' m n)
  unfolding idle
  idle_so n = ap (λ (k : Core). record (idle core m n) { core = k }) (sym (uncounted_again core))

  delivery_so : (s : Slot) → uncounted (put_slot core (delivered s)) ≡ uncounted (put_slot c'' (delivered (uncounted_slot s)))
  delivery_so s = put_same core c'' (delivered s) (delivered (uncounted_slot s)) (sym (uncounted_again core)) (delivered_so s)

  port_of_so : (n : ℕ) → port_of c'' n ≡ uncounted_one (port_of core n)
  port_of_so n = by (core.split && nat_le 128 n)
    where
      by : (b : Bool) → (if b then slot_at c'' (n - 128) else None) ≡ uncounted_one (if b then slot_at core (n - 128) else None)
      by true = slot_at_so core (n - 128)
      by false = refl

  -- a turn in the core without counts
  pub turn_so : (n : ℕ) → SameTurn (turn core m n) (turn c'' m n)
  turn_so n = turn_both core c'' m m n uncounted_slot
      (record { slots = slot_at_so core n; ports = λ free. port_of_so n; number = λ s. refl; state = λ s. refl; pending = λ s. refl }) SameTurn
      (record {
        idles = λ k none. idle_so k;
        arrives_at = λ s p rest free port is. ap (λ (k : Core). record (arrives core m s (p ∷ rest)) { core = k }) (delivery_so s);
        starts = λ s r own. start_so s;
      })

-- a turn in two cores that are the same without counts
pub turns_alike : (a b : Core) (m : Memory) (n : ℕ) → uncounted a ≡ uncounted b → SameTurn (turn a m n) (turn b m n)
turns_alike a b m n e = turn_so a m n ∙ ap (λ c. uncounted_turn (turn c m n)) e ∙ sym (turn_so b m n)
