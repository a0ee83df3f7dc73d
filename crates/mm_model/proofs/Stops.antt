-- Where a turn stops: its first test that fails decides what it comes to.
use Rattle.std.proofs.Common.{◌≡◌, ℕ, ◌+◌, ◌%◌, ◌^◌, Bool, true, false, not, ◌&&◌, ◌==◌, nat_lt, if◌then◌else◌, ℤ, pos}
use Rattle.std.proofs.Common.{negsuc, ◌+ℤ◌, List, [], ◌∷◌, ◌++◌, map, Option, Some, None, Result, Ok, Err, ◌⊎◌, inl}
use Rattle.std.proofs.Common.{inr, refl, sym, ap, subst, ◌/◌, ◌*ℤ◌, slice_set}
use Rattle.std.specs.Prelude.{is_some, option_map, option_and_then}
use Rattle.mm_word.specs.declared.{perm.{Perm.Perm, Kind.{Kind, TheVariants.{Fetch, Store}}}, cause.Cause.Cause}
use Rattle.mm_word.specs.declared.word.{Pre.{Pre, TheVariants.Any}, Post.Post, Word.{Word, TheVariants.{Int, Ptr}}}
use Rattle.mm_word.specs.declared.word.Cell.{Cell}
use Rattle.mm_word.specs.{Access.{AccessValue, check_result, touch_at, holds_word_at, is_aligned}, Cause.first_failing}
use Rattle.mm_word.specs.Perm.{perm_of, can_become, can_move, can_fetch, allows, execute_form}
use Rattle.mm_word.specs.Pointer.{Pointer, in_segment, holds_word, spells_pointer, pointer_of, base_of, moved_to}
use Rattle.mm_word.specs.Pointer.{lea_result, leab_result, restrict_result, subseg_result, restricted_to, next_result}
use Rattle.mm_word.specs.Pointer.{enter_result}
use Rattle.mm_isa.specs.declared.instr.{AluOp.{AluOp, TheVariants.{Divu, Remu}}, How.How}
use Rattle.mm_isa.specs.declared.instr.Instr.{Instr}
use Rattle.mm_isa.specs.declared.instr.Instr.TheVariants.{Out, Alu, Lea, Leai, Leab, Restrict, Subseg, Setptr, Ld, St}
use Rattle.mm_isa.specs.declared.instr.Instr.TheVariants.{Br, Bz, Bnz, Jmp, Jal, Lip, Trap, Evt, Resume, Rreg, Wreg}
use Rattle.mm_isa.specs.{declared.instr.Instr.TheVariants.{Map, Unmap}, Alu.{divides, div_zero, alu_result}}
use Rattle.mm_model.specs.declared.{event.Event.Event, step.Tick.TheVariants.{Blocked, Did}}
use Rattle.mm_model.specs.{Memory.{Memory, cell_at, can_map, is_mapped, passes}, Slot.{Slot, register, is_empty}}
use Rattle.mm_model.specs.{State.{Core, slot_at, queue_at}, Uses.{Use, Accessed}}
use Rattle.mm_model.specs.Operands.{lacks, addr_operand, value_operand}
use Rattle.mm_model.specs.Ask.{ask, is_privileged, load_kind, reaching, Ask.{Refuse, MapPage, UnmapPage}}
use Rattle.mm_model.specs.Effect.{Reply, Effect, effect, plain, sets, sets_pointer, sets_number, if_pointer, puts_out}
use Rattle.mm_model.specs.Effect.{loaded, stored, at_distance, branches, jumps, links, takes, resumes, delivered}
use Rattle.mm_model.specs.Effect.{reads_of, writes_of, maps, unmaps}
use Rattle.mm_model.specs.Effect.{Reply.{Fine, Refused, Got, Paged, Served}, Effect.{Fault, Block, Deliver, Do}}
use Rattle.mm_model.specs.Turn.{Turned, reply, reached, first_event, event_reply, served, is_taken, is_handler, faulted}
use Rattle.mm_model.specs.Turn.{blocked, ended, executed, issued, decoded, instr_in, fetched, aimed, started, asked_use}
use Rattle.mm_model.specs.Turn.{touch_of}
use Rattle.mm_model.specs.Tests.{Stop, fault_test, cell_at_sum, cell_tests, reach_tests, bits_in, signed_in}
use Rattle.mm_model.specs.Tests.{pointer_tests, in_segment_at, move_tests, restrict_tests, distance_tests, can_jump}
use Rattle.mm_model.specs.Tests.{has_room, has_event, serves, serve_tests, tests, instr_at, instr_tests, first_stop}
use Rattle.mm_model.proofs.EffectWords.{executable_moves}
use Rattle.mm_word.specs.declared.cause.Cause.TheVariants as cause

-- 1. What an effect is where the first test that fails is this one.

-- an event in a queue whose slot is not there: no machine has one
pub record Orphan (core : Core) (n : ℕ) : Type 0 where
  pub event : Event
  pub rest : List Event
  pub queue : queue_at core n ≡ event ∷ rest
  pub absent : slot_at core event.slot ≡ None

abbrev pub Comes : Core → ℕ → Option Stop → Effect → Type 0
Comes core n None (Do c) = Unit {0}
Comes core n None Block = Orphan core n
Comes core n None _ = ⊥
Comes core n (Some (Stop.Fault c)) e = e ≡ Fault c
Comes core n (Some (Stop.Deliver of)) e = e ≡ Deliver (delivered of)
Comes core n (Some Stop.Block) e = e ≡ Block

-- a reply to an access
abbrev Reaches : Option Stop → Reply → Type 0
Reaches None r = (a : AccessValue) × (c : Cell) × (r ≡ Got a c)
Reaches (Some (Stop.Fault c)) r = r ≡ Refused c
Reaches (Some _) r = ⊥

-- 2. The rows.

module _ (core : Core) (m : Memory) (s : Slot) where
  reach_stops : (w : Word) (by : ℤ) (kind : Kind) (pre : Pre) → Reaches (first_failing (reach_tests m w by kind pre)) (reply core m s.number (reaching (check_result w by kind) pre))
  unfolding reply
  reach_stops (Int b) by kind pre = refl
  reach_stops (Ptr p) by kind pre = right (allows p.perm kind)
    where
      bit : (t : AccessValue) (c : Cell) (b : Bool) → Reaches (first_failing (map fault_test ((true, cause.NoPage) ∷ (b, cause.Sync) ∷ []))) (if b then Got t c else Refused cause.Sync)
      bit t c true = (t, c, refl)
      bit t c false = refl

      page : (t : AccessValue) (o : Option Cell) → Reaches (first_failing (map fault_test (cell_tests o pre))) (reached t pre o)
      page t None = refl
      page t (Some c) = bit t c (passes pre c.full)

      align : (a : ℕ) (b : Bool)
          → Reaches (first_failing (map fault_test ((b, cause.Align) ∷ [] ++ cell_tests (cell_at m a) pre)))
          (reply core m s.number (reaching (if b then Ok (record { ptr = p; addr = a; kind = kind }) else Err
          cause.Align) pre))
      align a true = page (record { ptr = p; addr = a; kind = kind }) (cell_at m a)
      align a false = refl

      whole : (a : ℕ) (b : Bool)
          → Reaches (first_failing (map fault_test ((b, cause.Bounds) ∷ (a % 8 == 0, cause.Align) ∷ [] ++ cell_tests (cell_at m a) pre)))
          (reply core m s.number (reaching (if b then (if a % 8 == 0 then Ok (record { ptr = p; addr = a; kind = kind }) else Err cause.Align) else Err cause.Bounds) pre))
      whole a true = align a (a % 8 == 0)
      whole a false = refl

      sum : (z : ℤ) → Reaches (first_failing
          (map fault_test ((holds_word_at p z, cause.Bounds) ∷ (is_aligned z, cause.Align) ∷ [] ++ cell_tests
          (cell_at_sum m z) pre))) (reply core m s.number (reaching (touch_at p z kind) pre))
      sum (pos a) = whole a (holds_word p a)
      sum (negsuc a) = refl

      right : (b : Bool)
          → Reaches (first_failing (map fault_test ((true, cause.NotPointer) ∷ (b, cause.Perm) ∷
          (holds_word_at p (pos p.addr +ℤ by), cause.Bounds) ∷ (is_aligned (pos p.addr +ℤ by), cause.Align) ∷ [] ++
          cell_tests (cell_at_sum m (pos p.addr +ℤ by)) pre)))
          (reply core m s.number (reaching (if b then touch_at p (pos p.addr +ℤ by) kind else Err cause.Perm) pre))
      right true = sum (pos p.addr +ℤ by)
      right false = refl

  loads : (rd : ℕ) (post : Post) (o : Option Stop) (r : Reply) → Reaches o r → Comes core s.number o (loaded core.split s rd post r)
  loads rd post None r got = subst (λ x. Comes core s.number None (loaded core.split s rd post x)) (sym got.2) tt
  loads rd post (Some (Stop.Fault c)) r is = ap (loaded core.split s rd post) is
  loads rd post (Some (Stop.Deliver of)) r none = absurd none
  loads rd post (Some Stop.Block) r none = absurd none

  stores : (w : Word) (post : Post) (o : Option Stop) (r : Reply) → Reaches o r → Comes core s.number o (stored s w post r)
  stores w post None r got = subst (λ x. Comes core s.number None (stored s w post x)) (sym got.2) tt
  stores w post (Some (Stop.Fault c)) r is = ap (stored s w post) is
  stores w post (Some (Stop.Deliver of)) r none = absurd none
  stores w post (Some Stop.Block) r none = absurd none

  through_stops : (w : Word) (f : Pointer → List (Bool × Stop)) (g : Pointer → Effect)
      → ((p : Pointer) → Comes core s.number (first_failing (f p)) (g p)) → Comes core s.number
      (first_failing (pointer_tests w f)) (if_pointer w g)
  through_stops (Int b) f g k = refl
  through_stops (Ptr p) f g k = k p

  -- a pointer that moves, in a register or as the next instruction's
  inside : (p : Pointer) (z : ℤ) (f : Result Pointer Cause → Effect) → ((q : Pointer) → Comes core s.number None (f (Ok q))) → ((c : Cause) → f (Err c) ≡ Fault c)
      → Comes core s.number (first_failing ((in_segment_at p z, Stop.Fault cause.Bounds) ∷ [])) (f (moved_to p z))
  inside p (negsuc a) f ok err = err cause.Bounds
  inside p (pos a) f ok err = by (in_segment p a)
    where
      by : (b : Bool) → Comes core s.number (first_failing ((b, Stop.Fault cause.Bounds) ∷ [])) (f (if b then Ok (record p { addr = a }) else Err cause.Bounds))
      by true = ok (record p { addr = a })
      by false = err cause.Bounds

  moves : (rd : ℕ) (p : Pointer) (z : ℤ) → Comes core s.number (first_failing (move_tests p z)) (sets_pointer s rd (if can_move p.perm then moved_to p z else Err cause.Perm))
  moves rd p z = by (can_move p.perm)
    where
      by : (b : Bool) → Comes core s.number (first_failing ((b, Stop.Fault cause.Perm) ∷ (in_segment_at p z, Stop.Fault cause.Bounds) ∷ []))
          (sets_pointer s rd (if b then moved_to p z else Err cause.Perm))
      by true = inside p z (sets_pointer s rd) (λ q. tt) (λ c. refl)
      by false = refl

  restricts : (rd : ℕ) (p : Pointer) (o : Option Perm) → Comes core s.number (first_failing (restrict_tests p o))
      (sets_pointer s rd (elim o [ Some to ↦ restricted_to p to | None ↦ Err cause.Malformed ]))
  restricts rd p None = refl
  restricts rd p (Some to) = by (can_become p.perm to)
    where
      by : (b : Bool) → Comes core s.number (first_failing ((true, Stop.Fault cause.Malformed) ∷ (b, Stop.Fault cause.Perm) ∷ []))
          (sets_pointer s rd (if b then Ok (record p { perm = to }) else Err cause.Perm))
      by true = tt
      by false = refl

  shortens : (rd : ℕ) (p : Pointer) (log : ℕ) (a b : Bool)
      → Comes core s.number (first_failing ((a, Stop.Fault cause.Perm) ∷ (b, Stop.Fault cause.Bounds) ∷ []))
      (sets_pointer s rd (if a then (if b then Ok (record p { log = log }) else Err cause.Bounds) else Err
      cause.Perm))
  shortens rd p log true true = tt
  shortens rd p log true false = refl
  shortens rd p log false b = refl

  spells : (rd bits : ℕ) (a b : Bool)
      → Comes core s.number (first_failing ((a, Stop.Fault cause.Priv) ∷ (b, Stop.Fault cause.Malformed) ∷ []))
      (if a then sets_pointer s rd (if b then Ok (pointer_of bits) else Err cause.Malformed) else Fault cause.Priv)
  spells rd bits true true = tt
  spells rd bits true false = refl
  spells rd bits false b = refl

  divisor : (rd a b : ℕ) (zero_is : Bool) (f : ℕ) → Comes core s.number (first_failing ((not zero_is, Stop.Fault cause.DivZero) ∷ [])) (sets_number s rd (if zero_is then Err div_zero else Ok f))
  divisor rd a b true f = refl
  divisor rd a b false f = tt

  operates : (rd a b : ℕ) (op : AluOp) → Comes core s.number (first_failing (if divides op then (not (b == 0), Stop.Fault cause.DivZero) ∷ [] else [])) (sets_number s rd (alu_result op a b))
  operates rd a b Divu = divisor rd a b (b == 0) (a / b)
  operates rd a b Remu = divisor rd a b (b == 0) (a % b)
  operates rd a b _ = tt

  branches_stop : (imm : ℤ) → Comes core s.number (first_failing (distance_tests s imm)) (branches s (at_distance s imm))
  branches_stop imm = inside s.ip (pos s.ip.addr +ℤ (pos 8 *ℤ imm)) (branches s) (λ q. tt) (λ c. refl)

  -- a branch that is taken, and one that is not
  taken : (imm : ℤ) (b : Bool) → Comes core s.number (first_failing (if b then distance_tests s imm else [])) (if b then branches s (at_distance s imm) else Do (plain s))
  taken imm true = branches_stop imm
  taken imm false = tt

  taken_not : (imm : ℤ) (b : Bool) → Comes core s.number (first_failing (if b then [] else distance_tests s imm)) (if b then Do (plain s) else branches s (at_distance s imm))
  taken_not imm true = tt
  taken_not imm false = branches_stop imm

  jumps_stop : (p : Pointer) (o : Option Perm) → Comes core s.number (first_failing ((is_some o, Stop.Fault cause.Perm) ∷ [])) (jumps s p (option_map (λ perm. record p { perm = perm }) o))
  jumps_stop p None = refl
  jumps_stop p (Some perm) = tt

  links_stop : can_move s.ip.perm ≡ true → (rd : ℕ) (p : Pointer) (o : Option Perm)
      → Comes core s.number (first_failing
      ((is_some o, Stop.Fault cause.Perm) ∷ (in_segment s.ip (s.ip.addr + 8), Stop.Fault cause.Bounds) ∷ []))
      (links s rd p (option_map (λ perm. record p { perm = perm }) o) (next_result s.ip))
  links_stop moved rd p None = refl
  links_stop moved rd p (Some perm) = by (can_move s.ip.perm) (in_segment s.ip (s.ip.addr + 8)) moved
    where
      by : (a b : Bool) → a ≡ true
          → Comes core s.number (first_failing ((b, Stop.Fault cause.Bounds) ∷ [])) (links s rd p (Some (record p { perm = perm }))
          (if a && b then Some (record s.ip { addr = s.ip.addr + 8 }) else None))
      by true true is = tt
      by true false is = refl
      by false b is = cc

  outs : (byte : ℕ) (b : Bool) → Comes core s.number (first_failing ((b, Stop.Fault cause.OutFull) ∷ [])) (puts_out s byte (if b then Fine else Refused cause.OutFull))
  outs byte true = tt
  outs byte false = refl

  events : (rd : ℕ) (q : List Event) → queue_at core s.number ≡ q → Comes core s.number (first_failing ((has_event q, Stop.Block) ∷ [])) (takes s rd (first_event core q))
  events rd [] is = refl
  events rd (e ∷ rest) is = by (slot_at core e.slot) refl
    where
      by : (o : Option Slot) → slot_at core e.slot ≡ o → Comes core s.number None (takes s rd (event_reply e rest o))
      by None absent = record { event = e; rest = rest; queue = is; absent = absent }
      by (Some of) at = tt

  resumes_stop : (how : How) (o : Option Slot) → Comes core s.number (first_failing ((serves s.number o, Stop.Fault cause.NoSlot) ∷ [])) (resumes s how (served s.number o))
  resumes_stop how None = refl
  resumes_stop how (Some of) = by (is_handler s.number of.handler && is_taken of.state)
    where
      by : (b : Bool) → Comes core s.number (first_failing ((b, Stop.Fault cause.NoSlot) ∷ [])) (resumes s how (if b then Served of else Refused cause.NoSlot))
      by true = tt
      by false = refl

  reads : (rd reg : ℕ) (o : Option Slot) → Comes core s.number (first_failing (serve_tests core.split s.number o reg)) (reads_of core.split s rd reg (served s.number o))
  reads rd reg None = refl
  reads rd reg (Some of) = by (is_handler s.number of.handler && is_taken of.state) (core.split && is_empty of reg)
    where
      empty : (b : Bool) → Comes core s.number (first_failing ((not b, Stop.Deliver of) ∷ [])) (if b then Deliver (delivered of) else sets s rd (register of reg))
      empty true = refl
      empty false = tt

      by : (a b : Bool) → Comes core s.number
          (first_failing ((a, Stop.Fault cause.NoSlot) ∷ (not (core.split && is_empty of reg), Stop.Deliver of) ∷ []))
          (reads_of core.split s rd reg (if a then Served of else Refused cause.NoSlot))
      by true b = empty (core.split && is_empty of reg)
      by false b = refl

  writes : (reg : ℕ) (w : Word) (o : Option Slot) → Comes core s.number (first_failing (serve_tests core.split s.number o reg)) (writes_of core.split s reg w (served s.number o))
  writes reg w None = refl
  writes reg w (Some of) = by (is_handler s.number of.handler && is_taken of.state)
    where
      empty : (b : Bool) → Comes core s.number (first_failing ((not b, Stop.Deliver of) ∷ []))
          (if b then Deliver (delivered of) else Do
          (record (plain s) { other = Some (record of { regs = slice_set of.regs reg w }) }))
      empty true = refl
      empty false = tt

      by : (a : Bool) → Comes core s.number
          (first_failing ((a, Stop.Fault cause.NoSlot) ∷ (not (core.split && is_empty of reg), Stop.Deliver of) ∷ []))
          (writes_of core.split s reg w (if a then Served of else Refused cause.NoSlot))
      by true = empty (core.split && is_empty of reg)
      by false = refl

  mapped : (rd page : ℕ) (a b : Bool)
      → Comes core s.number (first_failing ((a, Stop.Fault cause.Priv) ∷ (b, Stop.Fault cause.Bounds) ∷ []))
      (maps s rd (reply core m s.number (if a then (if b then MapPage page else Refuse cause.Bounds) else Refuse
      cause.Priv)))
  unfolding reply
  mapped rd page true true = by (can_map m page)
    where
      by : (b : Bool) → Comes core s.number None (maps s rd (Paged page b))
      by true = tt
      by false = tt
  mapped rd page true false = refl
  mapped rd page false b = refl

  unmapped : (rd page : ℕ) (a b : Bool)
      → Comes core s.number (first_failing ((a, Stop.Fault cause.Priv) ∷ (b, Stop.Fault cause.Bounds) ∷ []))
      (unmaps s rd (reply core m s.number (if a then (if b then UnmapPage page else Refuse cause.Bounds) else Refuse
      cause.Priv)))
  unfolding reply
  unmapped rd page true true = by (is_mapped m page)
    where
      by : (b : Bool) → Comes core s.number None (unmaps s rd (Paged page b))
      by true = tt
      by false = tt
  unmapped rd page true false = refl
  unmapped rd page false b = refl

  -- the first of an instruction's own tests that fails decides its effect
  pub effect_stops : can_move s.ip.perm ≡ true → (i : Instr) → Comes core s.number (first_failing (tests core m s i)) (effect core.split i s (reply core m s.number (ask i s)))
  unfolding tests effect ask reply
  effect_stops moved (Out ra) = outs (bits_in s ra % 256) (has_room core s.group)
  effect_stops moved (Alu op rd ra rb) = operates rd (bits_in s ra) (bits_in s rb) op
  effect_stops moved (Lea rd ra rb) = through_stops (register s ra) (λ p. move_tests p (pos p.addr +ℤ signed_in s rb))
      (λ p. sets_pointer s rd (lea_result p (signed_in s rb))) (λ p. moves rd p (pos p.addr +ℤ signed_in s rb))
  effect_stops moved (Leai rd ra imm) = through_stops (register s ra) (λ p. move_tests p (pos p.addr +ℤ imm)) (λ p. sets_pointer s rd (lea_result p imm)) (λ p. moves rd p (pos p.addr +ℤ imm))
  effect_stops moved (Leab rd ra rb) = through_stops (register s ra)
      (λ p. move_tests p (pos (base_of p) +ℤ signed_in s rb)) (λ p. sets_pointer s rd (leab_result p (signed_in s rb)))
      (λ p. moves rd p (pos (base_of p) +ℤ signed_in s rb))
  effect_stops moved (Restrict rd ra rb) = through_stops (register s ra)
      (λ p. restrict_tests p (perm_of (bits_in s rb))) (λ p. sets_pointer s rd (restrict_result p (bits_in s rb)))
      (λ p. restricts rd p (perm_of (bits_in s rb)))
  effect_stops moved (Subseg rd ra rb) =
      through_stops (register s ra) (λ p. (can_move p.perm, Stop.Fault cause.Perm) ∷ (nat_lt (bits_in s rb) p.log, Stop.Fault cause.Bounds) ∷ [])
      (λ p. sets_pointer s rd (subseg_result p (bits_in s rb)))
      (λ p. shortens rd p (bits_in s rb) (can_move p.perm) (nat_lt (bits_in s rb) p.log))
  effect_stops moved (Setptr rd ra) = spells rd (bits_in s ra) (is_privileged s.ip.perm) (spells_pointer (bits_in s ra))
  effect_stops moved (Ld rd ra pre post imm) =
      loads rd post (first_failing (reach_tests m (register s ra) imm (load_kind post) pre))
      (reply core m s.number (reaching (check_result (register s ra) imm (load_kind post)) pre))
      (reach_stops (register s ra) imm (load_kind post) pre)
  effect_stops moved (St ra rb pre post imm) =
      stores (register s rb) post (first_failing (reach_tests m (register s ra) imm Store pre))
      (reply core m s.number (reaching (check_result (register s ra) imm Store) pre))
      (reach_stops (register s ra) imm Store pre)
  effect_stops moved (Br imm) = branches_stop imm
  effect_stops moved (Bz ra imm) = taken imm (bits_in s ra == 0)
  effect_stops moved (Bnz ra imm) = taken_not imm (bits_in s ra == 0)
  effect_stops moved (Jmp ra) = through_stops (register s ra) (λ p. (can_jump p, Stop.Fault cause.Perm) ∷ []) (λ p. jumps s p (enter_result p)) (λ p. jumps_stop p (execute_form p.perm))
  effect_stops moved (Jal rd ra) =
      through_stops (register s ra) (λ p. (can_jump p, Stop.Fault cause.Perm) ∷ (in_segment s.ip (s.ip.addr + 8), Stop.Fault cause.Bounds) ∷ []) (λ p. links s rd p (enter_result p) (next_result s.ip))
      (λ p. links_stop moved rd p (execute_form p.perm))
  effect_stops moved (Lip rd imm) = inside s.ip (pos s.ip.addr +ℤ (pos 8 *ℤ imm)) (sets_pointer s rd) (λ q. tt) (λ c. refl)
  effect_stops moved (Trap imm) = refl
  effect_stops moved (Evt rd) = events rd (queue_at core s.number) refl
  effect_stops moved (Resume ra how) = resumes_stop how (slot_at core (bits_in s ra))
  effect_stops moved (Rreg rd ra reg) = reads rd reg (slot_at core (bits_in s ra))
  effect_stops moved (Wreg ra rb reg) = writes reg (register s rb) (slot_at core (bits_in s ra))
  effect_stops moved (Map rd ra) = mapped rd (bits_in s ra) (is_privileged s.ip.perm) (nat_lt (bits_in s ra) (2 ^ 42))
  effect_stops moved (Unmap rd ra) = unmapped rd (bits_in s ra) (is_privileged s.ip.perm) (nat_lt (bits_in s ra) (2 ^ 42))
  effect_stops moved _ = tt

-- 3. What a turn is where its first test that fails is this one.

pub record FaultedTurn (core : Core) (m : Memory) (s : Slot) (c : Cause) (t : Turned) : Type 0 where
  pub address : Word
  pub value : Word
  pub fetched : Option AccessValue
  pub touched : Option AccessValue
  pub uses : List Use
  pub is : t ≡ faulted core m s c address value fetched touched uses

abbrev pub Stands : Core → Memory → Slot → Option Stop → Turned → Type 0
Stands core m s None t = (t.step.tick ≡ Did) ⊎ (Orphan core s.number × (t.step.tick ≡ Blocked))
Stands core m s (Some (Stop.Fault c)) t = FaultedTurn core m s c t
Stands core m s (Some (Stop.Deliver of)) t = t.step.tick ≡ Blocked
Stands core m s (Some Stop.Block) t = t.step.tick ≡ Blocked

module _ (core : Core) (m : Memory) (s : Slot) where
  ended_stands : (i : Instr) (f : AccessValue) (t : Option AccessValue) (us : List Use) (o : Option Stop) (e : Effect) → Comes core s.number o e → Stands core m s o (ended core m s i f t us e)
  unfolding ended blocked
  ended_stands i f t us None (Do c) k = inl refl
  ended_stands i f t us None Block k = inr (k, refl)
  ended_stands i f t us None (Fault c) k = absurd k
  ended_stands i f t us None (Deliver of) k = absurd k
  ended_stands i f t us (Some (Stop.Fault c)) e k = record { address = addr_operand i s; value = value_operand i s; fetched = Some f; touched = t; uses = us; is = ap (ended core m s i f t us) k }
  ended_stands i f t us (Some (Stop.Deliver of)) e k = ap (λ x. (ended core m s i f t us x).step.tick) k
  ended_stands i f t us (Some Stop.Block) e k = ap (λ x. (ended core m s i f t us x).step.tick) k

  module _ (moved : can_move s.ip.perm ≡ true) where
    issued_stands : (f : AccessValue) (u : Use) (i : Instr) → Stands core m s (first_failing ((not (core.split && lacks i s), Stop.Deliver s) ∷ tests core m s i)) (issued core m s f u i)
    unfolding issued executed blocked
    issued_stands f u i = by (core.split && lacks i s)
      where
        by : (b : Bool) → Stands core m s (first_failing ((not b, Stop.Deliver s) ∷ tests core m s i)) (if b then blocked core m (delivered s) f None (u ∷ []) else executed core m s f u i)
        by true = refl
        by false =
            ended_stands i f (touch_of (ask i s)) (u ∷ asked_use m (ask i s)) (first_failing (tests core m s i)) (effect core.split i s (reply core m s.number (ask i s)))
            (effect_stops core m s moved i)

    decoded_stands : (f : AccessValue) (u : Use) (o : Option Instr) → Stands core m s (first_failing (instr_tests core m s o)) (decoded core m s f u o)
    decoded_stands f u None = record { address = Int 0; value = Int 0; fetched = Some f; touched = None; uses = u ∷ []; is = refl }
    decoded_stands f u (Some i) = issued_stands f u i

    fetched_stands : (f : AccessValue) (o : Option Cell) → Stands core m s
        (first_failing (map fault_test (cell_tests o Any) ++ instr_tests core m s
        (option_and_then (λ c. instr_in c.word) o))) (fetched core m s f o)
    fetched_stands f None = record { address = Int 0; value = Int 0; fetched = Some f; touched = None; uses = Accessed f.kind f.addr false false ∷ []; is = refl }
    fetched_stands f (Some c) = decoded_stands f (Accessed f.kind f.addr true true) (instr_in c.word)

  early : (c : Cause) → FaultedTurn core m s c (faulted core m s c (Int 0) (Int 0) None None [])
  early c = record { address = Int 0; value = Int 0; fetched = None; touched = None; uses = []; is = refl }

  abbrev behind : Option Cell → List (Bool × Stop)
  behind o = map fault_test (cell_tests o Any) ++ instr_tests core m s (option_and_then (λ c. instr_in c.word) o)

  aimed_stands : Stands core m s (first_failing (reach_tests m (Ptr s.ip) (pos 0) Fetch Any ++ instr_tests core m s (instr_at m s))) (aimed core m s (check_result (Ptr s.ip) (pos 0) Fetch))
  aimed_stands = right (can_fetch s.ip.perm) refl
    where
      align : (a : ℕ) (b : Bool) → can_move s.ip.perm ≡ true
          → Stands core m s (first_failing ((b, Stop.Fault cause.Align) ∷ behind (cell_at m a))) (aimed core m s (if b then Ok (record { ptr = s.ip; addr = a; kind = Fetch }) else Err cause.Align))
      align a true moved = fetched_stands moved (record { ptr = s.ip; addr = a; kind = Fetch }) (cell_at m a)
      align a false moved = early cause.Align

      whole : (a : ℕ) (b : Bool) → can_move s.ip.perm ≡ true
          → Stands core m s (first_failing ((b, Stop.Fault cause.Bounds) ∷ (a % 8 == 0, Stop.Fault cause.Align) ∷ behind (cell_at m a)))
          (aimed core m s (if b then (if a % 8 == 0 then Ok (record { ptr = s.ip; addr = a; kind = Fetch }) else Err cause.Align) else Err cause.Bounds))
      whole a true moved = align a (a % 8 == 0) moved
      whole a false moved = early cause.Bounds

      sum : (z : ℤ) → can_move s.ip.perm ≡ true
          → Stands core m s (first_failing ((holds_word_at s.ip z, Stop.Fault cause.Bounds) ∷ (is_aligned z, Stop.Fault cause.Align) ∷ behind (cell_at_sum m z)))
          (aimed core m s (touch_at s.ip z Fetch))
      sum (pos a) moved = whole a (holds_word s.ip a) moved
      sum (negsuc a) moved = early cause.Bounds

      right : (b : Bool) → can_fetch s.ip.perm ≡ b
          → Stands core m s (first_failing
          ((b, Stop.Fault cause.Perm) ∷ (holds_word_at s.ip (pos s.ip.addr +ℤ pos 0), Stop.Fault cause.Bounds) ∷
          (is_aligned (pos s.ip.addr +ℤ pos 0), Stop.Fault cause.Align) ∷ behind
          (cell_at_sum m (pos s.ip.addr +ℤ pos 0))))
          (aimed core m s (if b then touch_at s.ip (pos s.ip.addr +ℤ pos 0) Fetch else Err cause.Perm))
      right true is = sum (pos s.ip.addr +ℤ pos 0) (executable_moves s.ip.perm is)
      right false is = early cause.Perm

  -- the first of a turn's tests that fails decides what the turn is
  pub turn_stops : Stands core m s (first_stop core m s) (started core m s)
  unfolding first_stop started
  turn_stops = by s.past
    where
      by : (b : Bool)
          → Stands core m s (first_failing ((not b, Stop.Fault cause.Bounds) ∷ reach_tests m (Ptr s.ip) (pos 0) Fetch Any ++ instr_tests core m s (instr_at m s)))
          (if b then faulted core m s cause.Bounds (Int 0) (Int 0) None None [] else aimed core m s (check_result (Ptr s.ip) (pos 0) Fetch))
      by true = early cause.Bounds
      by false = aimed_stands
