-- Each row of the table of instructions: what it does lets a core go on.
use Rattle.std.proofs.Common.{◌≡◌, ℕ, ◌+◌, ◌<◌, ◌^◌, ◌%◌, Bool, true, false, ◌&&◌, ◌||◌, ◌==◌, nat_lt, if◌then◌else◌}
use Rattle.std.proofs.Common.{List, [], ◌∷◌, length, Option, Some, None, Result, Ok, Err, refl, sym, ap, ◌∙◌, ltb-true}
use Rattle.std.proofs.{Common.{ℤ, pos, negsuc, ◌*ℤ◌, ◌+ℤ◌, slice_set}, lemmas.Bool.and_parts}
use Rattle.std.specs.{Prelude.option_map, Int.{w64, cast_unsigned, cast_signed}, List.AllByRecursion}
use Rattle.mm_word.specs.declared.perm.{Perm.{Perm, TheVariants.{Ro, Rw, Xu, Xp, Eu, Ep, Key}}, Kind.TheVariants.Store}
use Rattle.mm_word.specs.declared.cause.Cause.{Cause}
use Rattle.mm_word.specs.declared.word.{Pre.Pre, Post.Post, Word.{Word, TheVariants.{Int, Ptr}}, Cell.Cell}
use Rattle.mm_word.specs.{Access.{AccessValue, check_result}, Perm.{can_fetch, can_move, execute_form}}
use Rattle.mm_word.specs.Pointer.{Pointer, in_segment, moved_to, lea_result, leab_result, restrict_result}
use Rattle.mm_word.specs.Pointer.{subseg_result, setptr_result, next_result, enter_result}
use Rattle.mm_word.specs.Word.{word_bits, is_pointer}
use Rattle.mm_isa.specs.declared.instr.{DivZero.DivZero, How.{How, TheVariants.{Retry, Skip, Kill}}}
use Rattle.mm_isa.specs.declared.instr.Instr.{Instr}
use Rattle.mm_isa.specs.declared.instr.Instr.TheVariants.{Halt, Nop, Ldi, Ldhi, Mov, Isptr, Eqw, Out, SelfSlot, Alu}
use Rattle.mm_isa.specs.declared.instr.Instr.TheVariants.{Addi, Lea, Leai, Leab, Restrict, Subseg, Setptr, Ld, St, Br}
use Rattle.mm_isa.specs.declared.instr.Instr.TheVariants.{Bz, Bnz, Jmp, Jal, Lip, Trap, Evt, Resume, Rreg, Wreg, Map}
use Rattle.mm_isa.specs.{declared.instr.Instr.TheVariants.Unmap, Alu.alu_result}
use Rattle.mm_model.specs.declared.slot.SlotState.{SlotState, TheVariants.{Running, Waiting, Taken, Halted}}
use Rattle.mm_model.specs.declared.{slot.Pending.Pending, event.Event.Event}
use Rattle.mm_model.specs.{Memory.{Memory, cell_at, is_mapped, can_map, passes}, Slot.{Slot, register, is_empty}}
use Rattle.mm_model.specs.{State.{Core, slot_at, queue_at, output_of}, Image.output_limit, Operands.fields_d}
use Rattle.mm_model.specs.Ask.{ask, is_privileged, load_kind, reaching, Ask.{Refuse, MapPage, UnmapPage}}
use Rattle.mm_model.specs.Effect.{Reply, Change, Effect, effect, advanced, runs_past, plain, moved_on, sets}
use Rattle.mm_model.specs.Effect.{sets_pointer, sets_number, if_pointer, test, same_word, high_and_low, puts_out}
use Rattle.mm_model.specs.Effect.{loaded, stored, at_distance, branches, jumps, links, takes, resumed_by, resumes}
use Rattle.mm_model.specs.Effect.{delivered, reads_of, writes_of, maps, unmaps}
use Rattle.mm_model.specs.Effect.{Reply.{Fine, Refused, Got, Paged, Took, Served}, Effect.{Fault, Block, Deliver, Do}}
use Rattle.mm_model.specs.Turn.{reply, reached, event_reply, first_event, served, is_running, is_taken, is_handler}
use Rattle.mm_model.specs.Fits.{is_waiting, identity_of, IsSlot, IsFormed}
use Rattle.mm_model.proofs.CoreRows.{slot_at-number, slot_has}
use Rattle.mm_model.proofs.SlotSteps.{GoesOn, slot_stands, slot_written, slot_delivered, delivered_from}
use Rattle.mm_model.proofs.CoreSteps.{handler_is, Replaces}
use Rattle.mm_word.specs.declared.cause.Cause.TheVariants as cause

-- 1. What an effect has to be.

-- another slot, which this one serves and which neither runs nor waits, goes on so
pub record OtherKeeps (core : Core) (n : ℕ) (o : Slot) : Type 0 where
  pub replaces : Replaces core o
  pub served : replaces.old.handler ≡ Some n
  pub runs_not : is_running replaces.old.state ≡ false
  pub waits_not : is_waiting replaces.old.state ≡ false
  pub nor_later : is_waiting o.state ≡ false
  pub turns : replaces.old.turns ≡ o.turns

-- the slot of the oldest event is taken
pub record EventTaken (core : Core) (n : ℕ) (rest : List Event) (o : Slot) : Type 0 where
  pub replaces : Replaces core o
  pub event : Event
  pub queue : queue_at core n ≡ event ∷ rest
  pub slot : event.slot ≡ o.number
  pub waits_not : is_waiting o.state ≡ false
  pub turns : replaces.old.turns ≡ o.turns

-- what becomes of another slot and of the slot's own queue
pub data Moves (core : Core) (n : ℕ) (c : Change) : Type 0 where
  keeps_all : c.queue ≡ None → c.other ≡ None → Moves core n c
  frees : (o : Slot) → OtherKeeps core n o → c.queue ≡ None → c.other ≡ Some o → Moves core n c
  takes_event : (o : Slot) (rest : List Event) → EventTaken core n rest o → c.queue ≡ Some rest → c.other ≡ Some o → Moves core n c

-- a load that is issued empties the register that was written last
abbrev pub IssueKeeps : Bool → List (ℕ × Word) → Option Pending → Type 0
IssueKeeps split writes None = Unit {0}
IssueKeeps split writes (Some p) = (split ≡ true) × (p.reg < 16) × (writes ≡ (p.reg, Int 0) ∷ [])

-- there is room for a byte
abbrev pub OutKeeps : Core → ℕ → Option ℕ → Type 0
OutKeeps core g None = Unit {0}
OutKeeps core g (Some byte) = length (output_of core g) < output_limit core.version

pub record ChangeKeeps (core : Core) (s : Slot) (c : Change) : Type 0 where
  pub runs : can_fetch c.next.perm ≡ true
  -- in a split machine no word is written to a register that waits for a load
  pub writes : AllByRecursion (λ (w : ℕ × Word). core.split ≡ true → is_empty s w.0 ≡ false) c.writes
  pub issue : IssueKeeps core.split c.writes c.issue
  pub moves : Moves core s.number c
  pub room : OutKeeps core s.group c.out

abbrev pub EffectKeeps : Core → Slot → Effect → Type 0
EffectKeeps core s (Fault c) = Unit {0}
EffectKeeps core s Block = Unit {0}
EffectKeeps core s (Deliver o) = OtherKeeps core s.number o
EffectKeeps core s (Do c) = ChangeKeeps core s c

-- 2. Pointers that go on to be executable.

pub advanced_perm : (p : Pointer) → (advanced p).perm ≡ p.perm
unfolding advanced
advanced_perm p = by (can_move p.perm && in_segment p (p.addr + 8))
  where
    by : (b : Bool) → (moved_on p (if b then Some (record p { addr = p.addr + 8 }) else None)).perm ≡ p.perm
    by true = refl
    by false = refl

pub moved_perm : (p q : Pointer) (z : ℤ) → moved_to p z ≡ Ok q → q.perm ≡ p.perm
moved_perm p q (pos a) e = by (in_segment p a) e
  where
    by : (b : Bool) → (if b then Ok (record p { addr = a }) else Err cause.Bounds) ≡ Ok q → q.perm ≡ p.perm
    by true e = let same : record p { addr = a } ≡ q = cc in sym (ap (λ (x : Pointer). x.perm) same)
    by false e = cc
moved_perm p q (negsuc a) e = cc

pub enters_executable : (p q : Pointer) → enter_result p ≡ Some q → can_fetch q.perm ≡ true
enters_executable p q e = by p.perm e
  where
    found : (perm : Perm) → Some (record p { perm = perm }) ≡ Some q → can_fetch perm ≡ true → can_fetch q.perm ≡ true
    found perm e runs = let same : record p { perm = perm } ≡ q = cc in sym (ap (λ (x : Pointer). can_fetch x.perm) same) ∙ runs

    by : (perm : Perm) → option_map (λ x. record p { perm = x }) (execute_form perm) ≡ Some q → can_fetch q.perm ≡ true
    by Xu e = found Xu e refl
    by Xp e = found Xp e refl
    by Eu e = found Xu e refl
    by Ep e = found Xp e refl
    by Ro e = cc
    by Rw e = cc
    by Key e = cc

-- 3. Slots that are taken.

pub taken_rests : (st : SlotState) → is_taken st ≡ true → (is_running st ≡ false) × (is_waiting st ≡ false)
taken_rests Running h = cc
taken_rests Waiting h = cc
taken_rests Taken h = (refl, refl)
taken_rests (Halted c) h = cc

pub waiting_runs_not : (st : SlotState) → is_waiting st ≡ true → is_running st ≡ false
waiting_runs_not Running h = cc
waiting_runs_not Waiting h = refl
waiting_runs_not Taken h = cc
waiting_runs_not (Halted c) h = cc

pub running_waits_not : (st : SlotState) → is_running st ≡ true → is_waiting st ≡ false
running_waits_not Running h = refl
running_waits_not Waiting h = cc
running_waits_not Taken h = cc
running_waits_not (Halted c) h = cc

-- a slot that this one serves and whose event it has read
pub record IsServed (core : Core) (n k : ℕ) (of : Slot) : Type 0 where
  pub stands : slot_at core k ≡ Some of
  pub handled : of.handler ≡ Some n
  pub taken : is_taken of.state ≡ true

-- 4. The rows.

module _ (core : Core) (h : IsFormed core) (s : Slot) (at : slot_at core s.number ≡ Some s) where
  own : IsSlot s
  own = slot_has IsSlot core s.number s h.slots at

  -- a register that waits for no load in a split machine
  abbrev Free : ℕ → Type 0
  Free r = core.split ≡ true → is_empty s r ≡ false

  own_advances : can_fetch (advanced s.ip).perm ≡ true
  own_advances = ap can_fetch (advanced_perm s.ip) ∙ own.executable

  plain_keeps : EffectKeeps core s (Do (plain s))
  unfolding plain
  plain_keeps = record { runs = own_advances; writes = tt; issue = tt; moves = Moves.keeps_all refl refl; room = tt }

  sets_keeps : (rd : ℕ) (w : Word) → Free rd → EffectKeeps core s (sets s rd w)
  unfolding plain
  sets_keeps rd w free = record { runs = own_advances; writes = (free, tt); issue = tt; moves = Moves.keeps_all refl refl; room = tt }

  pointer_keeps : (rd : ℕ) (r : Result Pointer Cause) → Free rd → EffectKeeps core s (sets_pointer s rd r)
  pointer_keeps rd (Ok p) free = sets_keeps rd (Ptr p) free
  pointer_keeps rd (Err c) free = tt

  number_keeps : (rd : ℕ) (r : Result ℕ DivZero) → Free rd → EffectKeeps core s (sets_number s rd r)
  number_keeps rd (Ok n) free = sets_keeps rd (Int n) free
  number_keeps rd (Err e) free = tt

  if_pointer_keeps : (w : Word) (f : Pointer → Effect) → ((p : Pointer) → EffectKeeps core s (f p)) → EffectKeeps core s (if_pointer w f)
  if_pointer_keeps (Int b) f k = tt
  if_pointer_keeps (Ptr p) f k = k p

  if_keeps : (b : Bool) (x y : Effect) → EffectKeeps core s x → EffectKeeps core s y → EffectKeeps core s (if b then x else y)
  if_keeps true x y p q = p
  if_keeps false x y p q = q

  halts_keeps : EffectKeeps core s (Do (record (plain s) { next = s.ip; past = s.past; halts = true }))
  unfolding plain
  halts_keeps = record { runs = own.executable; writes = tt; issue = tt; moves = Moves.keeps_all refl refl; room = tt }

  out_keeps : (byte : ℕ) (b : Bool) → nat_lt (length (output_of core s.group)) (output_limit core.version) ≡ b → EffectKeeps core s (puts_out s byte (if b then Fine else Refused cause.OutFull))
  unfolding plain
  out_keeps byte true room = record {
    runs = own_advances;
    writes = tt;
    issue = tt;
    moves = Moves.keeps_all refl refl;
    room = ltb-true (length (output_of core s.group)) (output_limit core.version) room;
  }
  out_keeps byte false room = tt

  got_keeps : (rd : ℕ) (post : Post) (a : AccessValue) (c : Cell) (b : Bool) → core.split ≡ b → Free rd → rd < 16 → EffectKeeps core s (loaded b s rd post (Got a c))
  unfolding plain
  got_keeps rd post a c false mode free small = record { runs = own_advances; writes = (free, tt); issue = tt; moves = Moves.keeps_all refl refl; room = tt }
  got_keeps rd post a c true mode free small = record { runs = own_advances; writes = (free, tt); issue = (mode, small, refl); moves = Moves.keeps_all refl refl; room = tt }

  load_keeps : (rd : ℕ) (post : Post) (pre : Pre) (m : Memory) (r : Result AccessValue Cause) → Free rd → rd < 16
      → EffectKeeps core s (loaded core.split s rd post (reply core m s.number (reaching r pre)))
  unfolding reply
  load_keeps rd post pre m (Err c) free small = tt
  load_keeps rd post pre m (Ok a) free small = by (cell_at m a.addr)
    where
      passed : (c : Cell) (b : Bool) → EffectKeeps core s (loaded core.split s rd post (if b then Got a c else Refused cause.Sync))
      passed c true = got_keeps rd post a c core.split refl free small
      passed c false = tt

      by : (o : Option Cell) → EffectKeeps core s (loaded core.split s rd post (reached a pre o))
      by None = tt
      by (Some c) = passed c (passes pre c.full)

  store_keeps : (w : Word) (post : Post) (pre : Pre) (m : Memory) (r : Result AccessValue Cause) → EffectKeeps core s (stored s w post (reply core m s.number (reaching r pre)))
  unfolding reply plain
  store_keeps w post pre m (Err c) = tt
  store_keeps w post pre m (Ok a) = by (cell_at m a.addr)
    where
      passed : (c : Cell) (b : Bool) → EffectKeeps core s (stored s w post (if b then Got a c else Refused cause.Sync))
      passed c true = record { runs = own_advances; writes = tt; issue = tt; moves = Moves.keeps_all refl refl; room = tt }
      passed c false = tt

      by : (o : Option Cell) → EffectKeeps core s (stored s w post (reached a pre o))
      by None = tt
      by (Some c) = passed c (passes pre c.full)

  branch_keeps : (imm : ℤ) → EffectKeeps core s (branches s (at_distance s imm))
  unfolding plain
  branch_keeps imm = by (at_distance s imm) refl
    where
      by : (r : Result Pointer Cause) → at_distance s imm ≡ r → EffectKeeps core s (branches s r)
      by (Ok p) is = record { runs = ap can_fetch (moved_perm s.ip p (pos s.ip.addr +ℤ (pos 8 *ℤ imm)) is) ∙ own.executable; writes = tt; issue = tt; moves = Moves.keeps_all refl refl; room = tt }
      by (Err c) is = tt

  jump_keeps : (p : Pointer) (o : Option Pointer) → enter_result p ≡ o → EffectKeeps core s (jumps s p o)
  unfolding plain
  jump_keeps p None is = tt
  jump_keeps p (Some to) is = record { runs = enters_executable p to is; writes = tt; issue = tt; moves = Moves.keeps_all refl refl; room = tt }

  link_keeps : (rd : ℕ) (p : Pointer) (o behind : Option Pointer) → enter_result p ≡ o → Free rd → EffectKeeps core s (links s rd p o behind)
  unfolding plain
  link_keeps rd p None behind is free = tt
  link_keeps rd p (Some to) None is free = tt
  link_keeps rd p (Some to) (Some back) is free = record { runs = enters_executable p to is; writes = (free, tt); issue = tt; moves = Moves.keeps_all refl refl; room = tt }

  -- an event is taken
  took_keeps : (rd : ℕ) (e : Event) (rest : List Event) (of : Slot) → queue_at core s.number ≡ e ∷ rest → slot_at core e.slot ≡ Some of → AllByRecursion Free (rd ∷ (rd + 1) ∷ (rd + 2) ∷ (rd + 3) ∷ [])
      → EffectKeeps core s (takes s rd (Took e rest of))
  unfolding plain
  took_keeps rd e rest of queue is free =
      let number : of.number ≡ e.slot = slot_at-number core e.slot of is in
      let old = slot_has IsSlot core e.slot of h.slots is in
      record {
        runs = own_advances;
        writes = free;
        issue = tt;
        moves = Moves.takes_event (record of { state = Taken }) rest
            (record {
              replaces = record {
                old = of;
                stands = ap (slot_at core) number ∙ is;
                group = refl;
                handler = refl;
                ip = λ w. refl;
                goes_on = slot_stands core.split of of.ip of.past of.turns Taken old old.executable;
              };
              event = e;
              queue = queue;
              slot = sym number;
              waits_not = refl;
              turns = refl;
            })
            refl refl;
        room = tt;
      }

  event_keeps : (rd : ℕ) (q : List Event) → queue_at core s.number ≡ q → AllByRecursion Free (rd ∷ (rd + 1) ∷ (rd + 2) ∷ (rd + 3) ∷ []) → EffectKeeps core s (takes s rd (first_event core q))
  event_keeps rd [] queue free = tt
  event_keeps rd (e ∷ rest) queue free = by (slot_at core e.slot) refl
    where
      by : (o : Option Slot) → slot_at core e.slot ≡ o → EffectKeeps core s (takes s rd (event_reply e rest o))
      by None is = tt
      by (Some of) is = took_keeps rd e rest of queue is free

  -- a slot that is served
  serve_keeps : (k : ℕ) (f : Reply → Effect) → ((c : Cause) → EffectKeeps core s (f (Refused c)))
      → ((of : Slot) → IsServed core s.number k of → EffectKeeps core s (f (Served of))) → EffectKeeps core s
      (f (served s.number (slot_at core k)))
  serve_keeps k f refused served_keeps = by (slot_at core k) refl
    where
      passed : (of : Slot) (b : Bool) → slot_at core k ≡ Some of → (is_handler s.number of.handler && is_taken of.state) ≡ b → EffectKeeps core s (f (if b then Served of else Refused cause.NoSlot))
      passed of true is e =
          let both = and_parts (is_handler s.number of.handler) (is_taken of.state) e in
          served_keeps of (record { stands = is; handled = handler_is s.number of.handler both.0; taken = both.1 })
      passed of false is e = refused cause.NoSlot

      by : (o : Option Slot) → slot_at core k ≡ o → EffectKeeps core s (f (served s.number o))
      by None is = refused cause.NoSlot
      by (Some of) is = passed of (is_handler s.number of.handler && is_taken of.state) is refl

  -- it goes on, and neither runs nor waits before
  other_keeps : (k : ℕ) (of o : Slot) → IsServed core s.number k of → identity_of of ≡ identity_of o
      → is_waiting o.state ≡ false → of.turns ≡ o.turns → (is_waiting of.state ≡ true → of.ip ≡ o.ip)
      → GoesOn core.split of o → OtherKeeps core s.number o
  other_keeps k of o served same rests turns ip goes =
      let before = taken_rests of.state served.taken in
      record {
        replaces = record {
          old = of;
          stands = ap (slot_at core) (sym (ap (λ (i : ℕ × ℕ × Option ℕ). i.0) same) ∙ slot_at-number core k of served.stands) ∙ served.stands;
          group = ap (λ (i : ℕ × ℕ × Option ℕ). i.1) same;
          handler = ap (λ (i : ℕ × ℕ × Option ℕ). i.2) same;
          ip = ip;
          goes_on = goes;
        };
        served = served.handled;
        runs_not = before.0;
        waits_not = before.1;
        nor_later = rests;
        turns = turns;
      }

  resumed_keeps : (how : How) (k : ℕ) (of : Slot) → IsServed core s.number k of → EffectKeeps core s (resumes s how (Served of))
  unfolding plain
  resumed_keeps how k of served = record { runs = own_advances; writes = tt; issue = tt; moves = Moves.frees (resumed_by how of) (by how) refl refl; room = tt }
    where
      old : IsSlot of
      old = slot_has IsSlot core k of h.slots served.stands

      by : (how : How) → OtherKeeps core s.number (resumed_by how of)
      by Retry = other_keeps k of (record of { state = Running }) served refl refl refl (λ w. refl) (slot_stands core.split of of.ip of.past of.turns Running old old.executable)
      by Skip =
          let rests = (taken_rests of.state served.taken).1 in
          other_keeps k of (record of { state = Running; ip = advanced of.ip; past = of.past || runs_past of.ip }) served refl refl refl (λ w. cc (w, rests))
          (slot_stands core.split of (advanced of.ip) (of.past || runs_past of.ip) of.turns Running old (ap can_fetch (advanced_perm of.ip) ∙ old.executable))
      by Kill = other_keeps k of (record of { state = Halted None }) served refl refl refl (λ w. refl) (slot_stands core.split of of.ip of.past of.turns (Halted None) old old.executable)

  delivered_keeps : (k : ℕ) (of : Slot) → IsServed core s.number k of → OtherKeeps core s.number (delivered of)
  delivered_keeps k of served =
      let from = delivered_from of in
      let number = from.number in
      let group = from.group in
      let handler = from.handler in
      other_keeps k of (delivered of) served (cc) (ap is_waiting from.state ∙ (taken_rests of.state served.taken).1)
      (sym from.turns) (λ w. sym from.ip)
      (slot_delivered core.split of (slot_has IsSlot core k of h.slots served.stands))

  read_keeps : (rd reg k : ℕ) (of : Slot) → Free rd → IsServed core s.number k of → EffectKeeps core s (reads_of core.split s rd reg (Served of))
  read_keeps rd reg k of free served = if_keeps (core.split && is_empty of reg) (Deliver (delivered of))
      (sets s rd (register of reg)) (delivered_keeps k of served) (sets_keeps rd (register of reg) free)

  write_keeps : (reg k : ℕ) (w : Word) (of : Slot) → IsServed core s.number k of → EffectKeeps core s (writes_of core.split s reg w (Served of))
  unfolding plain
  write_keeps reg k w of served = by (core.split && is_empty of reg) refl
    where
      free : (split : Bool) → (split && is_empty of reg) ≡ false → split ≡ true → is_empty of reg ≡ false
      free true e on = e
      free false e on = cc

      by : (b : Bool) → (core.split && is_empty of reg) ≡ b → EffectKeeps core s
          (if b then Deliver (delivered of) else Do
          (record (plain s) { other = Some (record of { regs = slice_set of.regs reg w }) }))
      by true e = delivered_keeps k of served
      by false e =
          let goes = slot_written core.split of reg w (slot_has IsSlot core k of h.slots served.stands) (free core.split e) in
          record {
            runs = own_advances;
            writes = tt;
            issue = tt;
            moves = Moves.frees (record of { regs = slice_set of.regs reg w })
                (other_keeps k of (record of { regs = slice_set of.regs reg w }) served refl
                (taken_rests of.state served.taken).1 refl (λ y. refl) goes) refl refl;
            room = tt;
          }

  paged_keeps : (rd page : ℕ) (b : Bool) → Free rd → EffectKeeps core s (maps s rd (Paged page b))
  unfolding plain
  paged_keeps rd page true free = record { runs = own_advances; writes = (free, tt); issue = tt; moves = Moves.keeps_all refl refl; room = tt }
  paged_keeps rd page false free = sets_keeps rd (Int 0) free

  unpaged_keeps : (rd page : ℕ) (b : Bool) → Free rd → EffectKeeps core s (unmaps s rd (Paged page b))
  unfolding plain
  unpaged_keeps rd page true free = record { runs = own_advances; writes = (free, tt); issue = tt; moves = Moves.keeps_all refl refl; room = tt }
  unpaged_keeps rd page false free = sets_keeps rd (Int 0) free

  map_keeps : (m : Memory) (rd page : ℕ) (b c : Bool) → Free rd → EffectKeeps core s
      (maps s rd (reply core m s.number (if b then (if c then MapPage page else Refuse cause.Bounds) else Refuse
      cause.Priv)))
  unfolding reply
  map_keeps m rd page true true free = paged_keeps rd page (can_map m page) free
  map_keeps m rd page true false free = tt
  map_keeps m rd page false c free = tt

  unmap_keeps : (m : Memory) (rd page : ℕ) (b c : Bool) → Free rd → EffectKeeps core s
      (unmaps s rd (reply core m s.number (if b then (if c then UnmapPage page else Refuse cause.Bounds) else Refuse
      cause.Priv)))
  unfolding reply
  unmap_keeps m rd page true true free = unpaged_keeps rd page (is_mapped m page) free
  unmap_keeps m rd page true false free = tt
  unmap_keeps m rd page false c free = tt

  -- what an instruction does lets the core go on, where the registers that it names for results wait for no load in a split machine
  pub effect_keeps : (m : Memory) (i : Instr) → AllByRecursion Free (fields_d i) → AllByRecursion (λ (r : ℕ). r < 16)
      (fields_d i) → EffectKeeps core s (effect core.split i s (reply core m s.number (ask i s)))
  unfolding effect ask reply
  effect_keeps m Halt free small = halts_keeps
  effect_keeps m Nop free small = plain_keeps
  effect_keeps m (Ldi rd imm) free small = sets_keeps rd (Int (cast_unsigned w64 imm)) free.0
  effect_keeps m (Ldhi rd imm) free small = sets_keeps rd (Int (high_and_low (word_bits (register s rd)) imm)) free.0
  effect_keeps m (Mov rd ra) free small = sets_keeps rd (register s ra) free.0
  effect_keeps m (Isptr rd ra) free small = sets_keeps rd (Int (test (is_pointer (register s ra)))) free.0
  effect_keeps m (Eqw rd ra rb) free small = sets_keeps rd (Int (test (same_word (register s ra) (register s rb)))) free.0
  effect_keeps m (Out ra) free small = out_keeps (word_bits (register s ra) % 256) (nat_lt (length (output_of core s.group)) (output_limit core.version)) refl
  effect_keeps m (SelfSlot rd) free small = sets_keeps rd (Int s.number) free.0
  effect_keeps m (Alu op rd ra rb) free small = number_keeps rd (alu_result op (word_bits (register s ra)) (word_bits (register s rb))) free.0
  effect_keeps m (Addi rd ra imm) free small = sets_keeps rd (Int ((word_bits (register s ra) + cast_unsigned w64 imm) % 2 ^ 64)) free.0
  effect_keeps m (Lea rd ra rb) free small = if_pointer_keeps (register s ra)
      (λ p. sets_pointer s rd (lea_result p (cast_signed w64 (word_bits (register s rb)))))
      (λ p. pointer_keeps rd (lea_result p (cast_signed w64 (word_bits (register s rb)))) free.0)
  effect_keeps m (Leai rd ra imm) free small = if_pointer_keeps (register s ra) (λ p. sets_pointer s rd (lea_result p imm)) (λ p. pointer_keeps rd (lea_result p imm) free.0)
  effect_keeps m (Leab rd ra rb) free small = if_pointer_keeps (register s ra)
      (λ p. sets_pointer s rd (leab_result p (cast_signed w64 (word_bits (register s rb)))))
      (λ p. pointer_keeps rd (leab_result p (cast_signed w64 (word_bits (register s rb)))) free.0)
  effect_keeps m (Restrict rd ra rb) free small = if_pointer_keeps (register s ra)
      (λ p. sets_pointer s rd (restrict_result p (word_bits (register s rb))))
      (λ p. pointer_keeps rd (restrict_result p (word_bits (register s rb))) free.0)
  effect_keeps m (Subseg rd ra rb) free small = if_pointer_keeps (register s ra)
      (λ p. sets_pointer s rd (subseg_result p (word_bits (register s rb))))
      (λ p. pointer_keeps rd (subseg_result p (word_bits (register s rb))) free.0)
  effect_keeps m (Setptr rd ra) free small = if_keeps (is_privileged s.ip.perm)
      (sets_pointer s rd (setptr_result (word_bits (register s ra)))) (Fault cause.Priv)
      (pointer_keeps rd (setptr_result (word_bits (register s ra))) free.0) tt
  effect_keeps m (Ld rd ra pre post imm) free small = load_keeps rd post pre m (check_result (register s ra) imm (load_kind post)) free.0 small.0
  effect_keeps m (St ra rb pre post imm) free small = store_keeps (register s rb) post pre m (check_result (register s ra) imm Store)
  effect_keeps m (Br imm) free small = branch_keeps imm
  effect_keeps m (Bz ra imm) free small = if_keeps (word_bits (register s ra) == 0) (branches s (at_distance s imm)) (Do (plain s)) (branch_keeps imm) plain_keeps
  effect_keeps m (Bnz ra imm) free small = if_keeps (word_bits (register s ra) == 0) (Do (plain s)) (branches s (at_distance s imm)) plain_keeps (branch_keeps imm)
  effect_keeps m (Jmp ra) free small = if_pointer_keeps (register s ra) (λ p. jumps s p (enter_result p)) (λ p. jump_keeps p (enter_result p) refl)
  effect_keeps m (Jal rd ra) free small = if_pointer_keeps (register s ra)
      (λ p. links s rd p (enter_result p) (next_result s.ip)) (λ p. link_keeps rd p (enter_result p) (next_result s.ip)
      refl free.0)
  effect_keeps m (Lip rd imm) free small = pointer_keeps rd (at_distance s imm) free.0
  effect_keeps m (Trap imm) free small = tt
  effect_keeps m (Evt rd) free small = event_keeps rd (queue_at core s.number) refl free
  effect_keeps m (Resume ra how) free small = serve_keeps (word_bits (register s ra)) (resumes s how) (λ c. tt) (λ of served. resumed_keeps how (word_bits (register s ra)) of served)
  effect_keeps m (Rreg rd ra reg) free small = serve_keeps (word_bits (register s ra)) (reads_of core.split s rd reg)
      (λ c. tt) (λ of served. read_keeps rd reg (word_bits (register s ra)) of free.0 served)
  effect_keeps m (Wreg ra rb reg) free small = serve_keeps (word_bits (register s ra))
      (writes_of core.split s reg (register s rb)) (λ c. tt) (λ of served. write_keeps reg (word_bits (register s ra))
      (register s rb) of served)
  effect_keeps m (Map rd ra) free small = map_keeps m rd (word_bits (register s ra)) (is_privileged s.ip.perm) (nat_lt (word_bits (register s ra)) (2 ^ 42)) free.0
  effect_keeps m (Unmap rd ra) free small = unmap_keeps m rd (word_bits (register s ra)) (is_privileged s.ip.perm) (nat_lt (word_bits (register s ra)) (2 ^ 42)) free.0
