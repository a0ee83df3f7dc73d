-- What a turn changes besides slots and queues: one cell at the word of its writing access, or one page; one byte of one output.
use Rattle.std.proofs.Common.{◌≡◌, ◌⊎◌, inl, inr, ℕ, ◌%◌, ◌^◌, ◌<◌, Bool, true, false, ◌&&◌, ◌==◌, nat_lt}
use Rattle.std.proofs.Common.{if◌then◌else◌, List, [], ◌∷◌, ◌++◌, length, Option, Some, None, Result, Ok, Err, refl}
use Rattle.std.proofs.Common.{sym, ap, ◌∙◌, subst, arith}
use Rattle.std.specs.{Prelude.{slice_set, slice_index_or, IfOk}, Int.{w64, cast_signed}}
use Rattle.mm_word.specs.declared.{perm.Kind.TheVariants.Store, cause.Cause.Cause}
use Rattle.mm_word.specs.declared.word.{Pre.Pre, Post.Post, Word.{Word, TheVariants.{Int, Ptr}}, Cell.Cell}
use Rattle.mm_word.specs.{Access.{AccessValue, check_result}, Word.word_bits}
use Rattle.mm_word.specs.Pointer.{Pointer, lea_result, leab_result, restrict_result, subseg_result, setptr_result}
use Rattle.mm_word.{specs.Pointer.{next_result, enter_result}, proofs.Checked.kind_by}
use Rattle.mm_isa.specs.declared.instr.{DivZero.DivZero, How.How}
use Rattle.mm_isa.specs.declared.instr.Instr.{Instr}
use Rattle.mm_isa.specs.declared.instr.Instr.TheVariants.{Out, Alu, Lea, Leai, Leab, Restrict, Subseg, Setptr, Ld, St}
use Rattle.mm_isa.specs.declared.instr.Instr.TheVariants.{Br, Bz, Bnz, Jmp, Jal, Lip, Trap, Evt, Resume, Rreg, Wreg}
use Rattle.mm_isa.specs.{declared.instr.Instr.TheVariants.{Map, Unmap}, Alu.alu_result}
use Rattle.mm_model.specs.declared.{slot.SlotState.TheVariants.{Running, Halted}, event.Event.Event}
use Rattle.mm_model.specs.Memory.{Memory, cell_at, put_cell, is_mapped, can_map, map_page, unmap_page, passes}
use Rattle.mm_model.specs.{Memory.full_after, Uses.Use, Slot.{Slot, register, is_empty}}
use Rattle.mm_model.specs.{State.{Core, put_slot, put_queue, output_of, put_output}, Image.output_limit}
use Rattle.mm_model.specs.Operands.{addr_operand, value_operand}
use Rattle.mm_model.specs.Ask.{Ask, ask, is_privileged, load_kind, reaching, Ask.{Refuse, Reach, MapPage, UnmapPage}}
use Rattle.mm_model.specs.Effect.{Reply, Change, Effect, effect, delivered, sets, sets_pointer, sets_number, if_pointer}
use Rattle.mm_model.specs.Effect.{puts_out, set_by, loads, loaded, stored, at_distance, branches, jumps, links, takes}
use Rattle.mm_model.specs.Effect.{resumes, reads_of, writes_of, maps, unmaps, plain}
use Rattle.mm_model.specs.Effect.{Reply.{Fine, Refused, Got, Paged, Took, Served}, Pages.{Keep, Add, Remove}}
use Rattle.mm_model.specs.Effect.Effect.{Fault, Block, Deliver, Do}
use Rattle.mm_model.specs.Turn.{Turned, reached, reply, slot_after, with_other, with_queue, with_out, with_cell}
use Rattle.mm_model.specs.Turn.{with_pages, core_after, memory_after, stood, is_sync, event_of, core_faulted, faulted}
use Rattle.mm_model.specs.Turn.{touch_of, asked_use, blocked, ended, executed, idle, turn}
use Rattle.mm_model.specs.{Counted.writes, Fits.identity_of}
use Rattle.mm_model.proofs.{SlotSteps.delivered_from, TurnKeeps.changed_from}
use Rattle.mm_model.proofs.TurnShapes.{fetch_uses, fetch_use, started_one, turn_by}
use Rattle.mm_word.specs.declared.cause.Cause.TheVariants as cause
use Rattle.mm_word.specs.declared.word.Post.TheVariants as posts

-- 1. Most instructions change neither cells nor pages nor outputs.

record IsQuiet (c : Change) : Type 0 where
  out : c.out ≡ None
  cell : c.cell ≡ None
  pages : c.pages ≡ Keep

abbrev Quiet : Effect → Type 0
Quiet (Do c) = IsQuiet c
Quiet _ = Unit {0}

silent : {c : Change} → c.out ≡ None → c.cell ≡ None → c.pages ≡ Keep → IsQuiet c
silent a b d = record { out = a; cell = b; pages = d }

-- the instructions that may change one of these
abbrev IsLoud : Instr → Type 0
IsLoud (Out ra) = Unit {0}
IsLoud (Ld rd ra pre post imm) = Unit {0}
IsLoud (St ra rb pre post imm) = Unit {0}
IsLoud (Map rd ra) = Unit {0}
IsLoud (Unmap rd ra) = Unit {0}
IsLoud _ = ⊥

module _ (s : Slot) where
  pointer_quiet : (rd : ℕ) (r : Result Pointer Cause) → Quiet (sets_pointer s rd r)
  unfolding plain
  pointer_quiet rd (Ok p) = silent refl refl refl
  pointer_quiet rd (Err c) = tt

  number_quiet : (rd : ℕ) (r : Result ℕ DivZero) → Quiet (sets_number s rd r)
  unfolding plain
  number_quiet rd (Ok n) = silent refl refl refl
  number_quiet rd (Err e) = tt

  if_quiet : (w : Word) (f : Pointer → Effect) → ((p : Pointer) → Quiet (f p)) → Quiet (if_pointer w f)
  if_quiet (Int b) f h = tt
  if_quiet (Ptr p) f h = h p

  either_quiet : (b : Bool) (x y : Effect) → Quiet x → Quiet y → Quiet (if b then x else y)
  either_quiet true x y h k = h
  either_quiet false x y h k = k

  branch_quiet : (r : Result Pointer Cause) → Quiet (branches s r)
  unfolding plain
  branch_quiet (Ok p) = silent refl refl refl
  branch_quiet (Err c) = tt

  jump_quiet : (p : Pointer) (o : Option Pointer) → Quiet (jumps s p o)
  unfolding plain
  jump_quiet p None = tt
  jump_quiet p (Some to) = silent refl refl refl

  link_quiet : (rd : ℕ) (p : Pointer) (o b : Option Pointer) → Quiet (links s rd p o b)
  unfolding plain
  link_quiet rd p None b = tt
  link_quiet rd p (Some to) None = tt
  link_quiet rd p (Some to) (Some back) = silent refl refl refl

  take_quiet : (rd : ℕ) (r : Reply) → Quiet (takes s rd r)
  unfolding plain
  take_quiet rd (Took e rest of) = silent refl refl refl
  take_quiet rd _ = tt

  resume_quiet : (how : How) (r : Reply) → Quiet (resumes s how r)
  unfolding plain
  resume_quiet how (Served of) = silent refl refl refl
  resume_quiet how _ = tt

  read_quiet : (split : Bool) (rd reg : ℕ) (r : Reply) → Quiet (reads_of split s rd reg r)
  unfolding plain
  read_quiet split rd reg (Served of) = either_quiet (split && is_empty of reg) (Deliver (delivered of)) (sets s rd (register of reg)) tt (silent refl refl refl)
  read_quiet split rd reg _ = tt

  write_quiet : (split : Bool) (reg : ℕ) (w : Word) (r : Reply) → Quiet (writes_of split s reg w r)
  unfolding plain
  write_quiet split reg w (Served of) = either_quiet (split && is_empty of reg) (Deliver (delivered of))
      (Do (record (plain s) { other = Some (record of { regs = slice_set of.regs reg w }) })) tt
      (silent refl refl refl)
  write_quiet split reg w _ = tt

  quiet_or_loud : (split : Bool) (i : Instr) (r : Reply) → Quiet (effect split i s r) ⊎ IsLoud i
  unfolding effect plain
  quiet_or_loud split (Out ra) r = inr tt
  quiet_or_loud split (Alu op rd ra rb) r = inl (number_quiet rd (alu_result op (word_bits (register s ra)) (word_bits (register s rb))))
  quiet_or_loud split (Lea rd ra rb) r = inl (if_quiet (register s ra) _ (λ p. pointer_quiet rd (lea_result p (cast_signed w64 (word_bits (register s rb))))))
  quiet_or_loud split (Leai rd ra imm) r = inl (if_quiet (register s ra) _ (λ p. pointer_quiet rd (lea_result p imm)))
  quiet_or_loud split (Leab rd ra rb) r = inl (if_quiet (register s ra) _ (λ p. pointer_quiet rd (leab_result p (cast_signed w64 (word_bits (register s rb))))))
  quiet_or_loud split (Restrict rd ra rb) r = inl (if_quiet (register s ra) _ (λ p. pointer_quiet rd (restrict_result p (word_bits (register s rb)))))
  quiet_or_loud split (Subseg rd ra rb) r = inl (if_quiet (register s ra) _ (λ p. pointer_quiet rd (subseg_result p (word_bits (register s rb)))))
  quiet_or_loud split (Setptr rd ra) r = inl
      (either_quiet (is_privileged s.ip.perm) (sets_pointer s rd (setptr_result (word_bits (register s ra))))
      (Fault cause.Priv) (pointer_quiet rd (setptr_result (word_bits (register s ra)))) tt)
  quiet_or_loud split (Ld rd ra pre post imm) r = inr tt
  quiet_or_loud split (St ra rb pre post imm) r = inr tt
  quiet_or_loud split (Br imm) r = inl (branch_quiet (at_distance s imm))
  quiet_or_loud split (Bz ra imm) r = inl (either_quiet (word_bits (register s ra) == 0) (branches s (at_distance s imm)) (Do (plain s)) (branch_quiet (at_distance s imm)) (silent refl refl refl))
  quiet_or_loud split (Bnz ra imm) r = inl (either_quiet (word_bits (register s ra) == 0) (Do (plain s)) (branches s (at_distance s imm)) (silent refl refl refl) (branch_quiet (at_distance s imm)))
  quiet_or_loud split (Jmp ra) r = inl (if_quiet (register s ra) _ (λ p. jump_quiet p (enter_result p)))
  quiet_or_loud split (Jal rd ra) r = inl (if_quiet (register s ra) _ (λ p. link_quiet rd p (enter_result p) (next_result s.ip)))
  quiet_or_loud split (Lip rd imm) r = inl (pointer_quiet rd (at_distance s imm))
  quiet_or_loud split (Trap imm) r = inl tt
  quiet_or_loud split (Evt rd) r = inl (take_quiet rd r)
  quiet_or_loud split (Resume ra how) r = inl (resume_quiet how r)
  quiet_or_loud split (Rreg rd ra reg) r = inl (read_quiet split rd reg r)
  quiet_or_loud split (Wreg ra rb reg) r = inl (write_quiet split reg (register s rb) r)
  quiet_or_loud split (Map rd ra) r = inr tt
  quiet_or_loud split (Unmap rd ra) r = inr tt
  quiet_or_loud split _ r = inl (silent refl refl refl)

-- 2. What a change makes of the memory and of the outputs.

-- a cell was written at the word of an access that writes
pub record WroteAt (m later : Memory) (touched : Option AccessValue) : Type 0 where
  pub access : AccessValue
  pub cell : Cell
  pub is : touched ≡ Some access
  pub kind : writes access.kind ≡ true
  pub memory : later ≡ put_cell m access.addr cell

pub record MappedOne (m later : Memory) : Type 0 where
  pub page : ℕ
  pub could : can_map m page ≡ true
  pub memory : later ≡ map_page m page

pub record RemovedOne (m later : Memory) : Type 0 where
  pub page : ℕ
  pub was : is_mapped m page ≡ true
  pub memory : later ≡ unmap_page m page

pub data MemoryMoves (m later : Memory) (touched : Option AccessValue) : Type 0 where
  Stays : later ≡ m → MemoryMoves m later touched
  Writes : WroteAt m later touched → MemoryMoves m later touched
  Maps : MappedOne m later → MemoryMoves m later touched
  Removes : RemovedOne m later → MemoryMoves m later touched

pub record PutOut (was now : List (List ℕ)) : Type 0 where
  pub group : ℕ
  pub byte : ℕ
  pub small : byte < 256
  pub outputs : now ≡ slice_set was group (slice_index_or was group [] ++ byte ∷ [])

pub data OutputMoves (was now : List (List ℕ)) : Type 0 where
  Same : now ≡ was → OutputMoves was now
  Puts : PutOut was now → OutputMoves was now

-- what a turn makes of memory and core
pub record TurnChanges (core : Core) (m : Memory) (t : Turned) : Type 0 where
  pub memory : MemoryMoves m t.memory t.step.touched
  pub outputs : OutputMoves core.outputs t.core.outputs
  pub version : t.core.version ≡ core.version
  pub split : t.core.split ≡ core.split

-- 3. Faults, waits and changes.

-- a slot keeps its number, group and handler when it changes, and when its oldest load is delivered
pub changed_identity : (s : Slot) (c : Change) → identity_of s ≡ identity_of (slot_after s c)
changed_identity s c =
    let from = changed_from s c in
    let number = from.number in
    let group = from.group in
    let handler = from.handler in
    cc

pub delivered_identity : (s : Slot) → identity_of s ≡ identity_of (delivered s)
delivered_identity s =
    let from = delivered_from s in
    let number = from.number in
    let group = from.group in
    let handler = from.handler in
    cc

-- a core that differs in its rows alone
pub record SameButRows (core later : Core) : Type 0 where
  pub outputs : later.outputs ≡ core.outputs
  pub version : later.version ≡ core.version
  pub split : later.split ≡ core.split

pub fault_same : (core : Core) (s : Slot) (e : Event) (o : Option ℕ) → SameButRows core (core_faulted core s e o)
unfolding core_faulted put_slot put_queue
fault_same core s e (Some h) = record { outputs = refl; version = refl; split = refl }
fault_same core s e None = by (is_sync e.cause)
  where
    by : (b : Bool) → SameButRows core (if b then put_slot core (stood s Running) else put_slot core (stood s (Halted (Some e.cause))))
    by true = record { outputs = refl; version = refl; split = refl }
    by false = record { outputs = refl; version = refl; split = refl }

-- so what a group has put out is the same
pub same_output : (core later : Core) → SameButRows core later → (g : ℕ) → output_of later g ≡ output_of core g
unfolding output_of
same_output core later h g = ap (λ (l : List (List ℕ)). slice_index_or l g []) h.outputs

-- the core of a change before its output
pub moved_same : (core : Core) (o : Option Slot) (s : Slot) (n : ℕ) (q : Option (List Event)) → SameButRows core (with_queue (put_slot (with_other core o) s) n q)
unfolding put_slot put_queue
moved_same core None s n None = record { outputs = refl; version = refl; split = refl }
moved_same core None s n (Some q) = record { outputs = refl; version = refl; split = refl }
moved_same core (Some other) s n None = record { outputs = refl; version = refl; split = refl }
moved_same core (Some other) s n (Some q) = record { outputs = refl; version = refl; split = refl }

module _ (core : Core) (m : Memory) where
  abbrev Changes : Turned → Type 0
  Changes t = TurnChanges core m t

  fault_changes : (s : Slot) (c : Cause) (a w : Word) (f t : Option AccessValue) (us : List Use) → Changes (faulted core m s c a w f t us)
  unfolding faulted
  fault_changes s c a w f t us =
      let same = fault_same core s (event_of s c a w) s.handler in
      record { memory = Stays refl; outputs = Same same.outputs; version = same.version; split = same.split }

  block_changes : (s : Slot) (f : AccessValue) (t : Option AccessValue) (us : List Use) → Changes (blocked core m s f t us)
  unfolding blocked put_slot
  block_changes s f t us = record { memory = Stays refl; outputs = Same refl; version = refl; split = refl }

  deliver_changes : (s other : Slot) (f : AccessValue) (t : Option AccessValue) (us : List Use) → Changes (blocked (put_slot core other) m s f t us)
  unfolding blocked put_slot
  deliver_changes s other f t us = record { memory = Stays refl; outputs = Same refl; version = refl; split = refl }

  idle_changes : (n : ℕ) → Changes (idle core m n)
  unfolding idle
  idle_changes n = record { memory = Stays refl; outputs = Same refl; version = refl; split = refl }

  abbrev SmallOut : Option ℕ → Type 0
  SmallOut None = Unit {0}
  SmallOut (Some byte) = byte < 256

  did_changes : (k : Core) → SameButRows core k → (g : ℕ) (o : Option ℕ) → SmallOut o → (i : Instr) (s : Slot) (f : AccessValue) (t : Option AccessValue) (us : List Use) (c : Change)
      → core_after core s c ≡ with_out k g o → MemoryMoves m (memory_after m c) t → Changes (ended core m s i f t us (Do c))
  unfolding ended put_output output_of
  did_changes k e g None h i s f t us c is moves =
      record { memory = moves; outputs = Same (ap (λ (x : Core). x.outputs) is ∙ e.outputs); version = ap (λ (x : Core). x.version) is ∙ e.version; split = ap (λ (x : Core). x.split) is ∙ e.split }
  did_changes k e g (Some byte) h i s f t us c is moves = record {
    memory = moves;
    outputs = Puts (record {
      group = g;
      byte = byte;
      small = h;
      outputs = ap (λ (x : Core). x.outputs) is ∙ ap (λ (all : List (List ℕ)). slice_set all g (slice_index_or all g [] ++ byte ∷ [])) e.outputs;
    });
    version = ap (λ (x : Core). x.version) is ∙ e.version;
    split = ap (λ (x : Core). x.split) is ∙ e.split;
  }

  does_changes : (s : Slot) (i : Instr) (f : AccessValue) (t : Option AccessValue) (us : List Use) (c : Change) → SmallOut c.out → MemoryMoves m (memory_after m c) t
      → Changes (ended core m s i f t us (Do c))
  unfolding core_after
  does_changes s i f t us c small moves =
      did_changes (with_queue (put_slot (with_other core c.other) (slot_after s c)) s.number c.queue)
      (moved_same core c.other (slot_after s c) s.number c.queue) s.group c.out small i s f t us c refl moves

  quiet_memory : (c : Change) → IsQuiet c → memory_after m c ≡ m
  unfolding memory_after
  quiet_memory c q = ap (λ o. with_pages (with_cell m o) c.pages) q.cell ∙ ap (with_pages m) q.pages

  quiet_small : (c : Change) → IsQuiet c → SmallOut c.out
  quiet_small c q = subst SmallOut (sym q.out) tt

  quiet_changes : (s : Slot) (i : Instr) (f : AccessValue) (t : Option AccessValue) (us : List Use) (y : Effect) → Quiet y → Changes (ended core m s i f t us y)
  unfolding ended
  quiet_changes s i f t us (Fault c) q = fault_changes s c (addr_operand i s) (value_operand i s) (Some f) t us
  quiet_changes s i f t us Block q = block_changes s f t us
  quiet_changes s i f t us (Deliver other) q = deliver_changes s other f t us
  quiet_changes s i f t us (Do c) q = does_changes s i f t us c (quiet_small c q) (Stays (quiet_memory c q))

  -- 4. The instructions that change cells, pages or outputs.

  out_changes : (s : Slot) (i : Instr) (f : AccessValue) (us : List Use) (n : ℕ) (b : Bool) → Changes (ended core m s i f None us (puts_out s (n % 256) (if b then Fine else Refused cause.OutFull)))
  unfolding plain memory_after
  out_changes s i f us n true = does_changes s i f None us (record (plain s) { out = Some (n % 256) }) (omega arith) (Stays refl)
  out_changes s i f us n false = quiet_changes s i f None us (Fault cause.OutFull) tt

  load_change : (split : Bool) (s : Slot) (rd : ℕ) (post : Post) (a : AccessValue) (c : Cell) → a.kind ≡ load_kind post
      → SmallOut (record (loads split s rd c.word) { cell = set_by post a.addr c }).out × MemoryMoves m (memory_after m (record (loads split s rd c.word) { cell = set_by post a.addr c })) (Some a)
  unfolding plain memory_after
  load_change true s rd posts.Keep a c e = (tt, Stays refl)
  load_change false s rd posts.Keep a c e = (tt, Stays refl)
  load_change true s rd posts.Full a c e = (tt, Writes (record { access = a; cell = record c { full = true }; is = refl; kind = ap writes e; memory = refl }))
  load_change false s rd posts.Full a c e = (tt, Writes (record { access = a; cell = record c { full = true }; is = refl; kind = ap writes e; memory = refl }))
  load_change true s rd posts.Empty a c e = (tt, Writes (record { access = a; cell = record c { full = false }; is = refl; kind = ap writes e; memory = refl }))
  load_change false s rd posts.Empty a c e = (tt, Writes (record { access = a; cell = record c { full = false }; is = refl; kind = ap writes e; memory = refl }))

  load_changes : (split : Bool) (s : Slot) (i : Instr) (f : AccessValue) (us : List Use) (rd : ℕ) (post : Post) (pre : Pre) (a : AccessValue) (o : Option Cell) → a.kind ≡ load_kind post
      → Changes (ended core m s i f (Some a) us (loaded split s rd post (reached a pre o)))
  load_changes split s i f us rd post pre a None e = quiet_changes s i f (Some a) us (Fault cause.NoPage) tt
  load_changes split s i f us rd post pre a (Some c) e = by (passes pre c.full)
    where
      by : (b : Bool) → Changes (ended core m s i f (Some a) us (loaded split s rd post (if b then Got a c else Refused cause.Sync)))
      by true = let k = load_change split s rd post a c e in does_changes s i f (Some a) us (record (loads split s rd c.word) { cell = set_by post a.addr c }) k.0 k.1
      by false = quiet_changes s i f (Some a) us (Fault cause.Sync) tt

  loads_changes : (split : Bool) (s : Slot) (i : Instr) (f : AccessValue) (u : Use) (rd : ℕ) (post : Post) (pre : Pre) (r : Result AccessValue Cause)
      → IfOk r (λ (a : AccessValue). a.kind ≡ load_kind post)
      → Changes (ended core m s i f (touch_of (reaching r pre)) (u ∷ asked_use m (reaching r pre)) (loaded split s rd post (reply core m s.number (reaching r pre))))
  unfolding reply
  loads_changes split s i f u rd post pre (Err c) h = quiet_changes s i f None (u ∷ []) (Fault c) tt
  loads_changes split s i f u rd post pre (Ok a) h = load_changes split s i f (u ∷ asked_use m (Reach a pre)) rd post pre a (cell_at m a.addr) h

  store_change : (s : Slot) (w : Word) (post : Post) (a : AccessValue) (c : Cell) → a.kind ≡ Store
      → MemoryMoves m (memory_after m (record (plain s) { cell = Some (a.addr, record { word = w; full = full_after post c.full }) })) (Some a)
  unfolding plain memory_after
  store_change s w post a c e = Writes (record { access = a; cell = record { word = w; full = full_after post c.full }; is = refl; kind = ap writes e; memory = refl })

  store_small : (s : Slot) (x : ℕ × Cell) → SmallOut (record (plain s) { cell = Some x }).out
  unfolding plain
  store_small s x = tt

  store_changes : (s : Slot) (i : Instr) (f : AccessValue) (us : List Use) (w : Word) (post : Post) (pre : Pre) (a : AccessValue) (o : Option Cell) → a.kind ≡ Store
      → Changes (ended core m s i f (Some a) us (stored s w post (reached a pre o)))
  store_changes s i f us w post pre a None e = quiet_changes s i f (Some a) us (Fault cause.NoPage) tt
  store_changes s i f us w post pre a (Some c) e = by (passes pre c.full)
    where
      by : (b : Bool) → Changes (ended core m s i f (Some a) us (stored s w post (if b then Got a c else Refused cause.Sync)))
      by true =
          does_changes s i f (Some a) us (record (plain s) { cell = Some (a.addr, record { word = w; full = full_after post c.full }) })
          (store_small s (a.addr, record { word = w; full = full_after post c.full })) (store_change s w post a c e)
      by false = quiet_changes s i f (Some a) us (Fault cause.Sync) tt

  stores_changes : (s : Slot) (i : Instr) (f : AccessValue) (u : Use) (w : Word) (post : Post) (pre : Pre) (r : Result AccessValue Cause) → IfOk r (λ (a : AccessValue). a.kind ≡ Store)
      → Changes (ended core m s i f (touch_of (reaching r pre)) (u ∷ asked_use m (reaching r pre)) (stored s w post (reply core m s.number (reaching r pre))))
  unfolding reply
  stores_changes s i f u w post pre (Err c) h = quiet_changes s i f None (u ∷ []) (Fault c) tt
  stores_changes s i f u w post pre (Ok a) h = store_changes s i f (u ∷ asked_use m (Reach a pre)) w post pre a (cell_at m a.addr) h

  map_changes : (s : Slot) (i : Instr) (f : AccessValue) (us : List Use) (rd p : ℕ) (b : Bool) → can_map m p ≡ b → Changes (ended core m s i f None us (maps s rd (Paged p b)))
  unfolding plain memory_after
  map_changes s i f us rd p true e = does_changes s i f None us (record (plain s) { writes = (rd, Int 1) ∷ []; pages = Add p }) tt (Maps (record { page = p; could = e; memory = refl }))
  map_changes s i f us rd p false e = quiet_changes s i f None us (sets s rd (Int 0)) (silent refl refl refl)

  unmap_changes : (s : Slot) (i : Instr) (f : AccessValue) (us : List Use) (rd p : ℕ) (b : Bool) → is_mapped m p ≡ b → Changes (ended core m s i f None us (unmaps s rd (Paged p b)))
  unfolding plain memory_after
  unmap_changes s i f us rd p true e = does_changes s i f None us (record (plain s) { writes = (rd, Int 1) ∷ []; pages = Remove p }) tt (Removes (record { page = p; was = e; memory = refl }))
  unmap_changes s i f us rd p false e = quiet_changes s i f None us (sets s rd (Int 0)) (silent refl refl refl)

  abbrev paging : Bool → Bool → Ask → Ask
  paging b d asked = if b then (if d then asked else Refuse cause.Bounds) else Refuse cause.Priv

  maps_changes : (s : Slot) (i : Instr) (f : AccessValue) (u : Use) (rd p : ℕ) (b d : Bool)
      → Changes (ended core m s i f (touch_of (paging b d (MapPage p))) (u ∷ asked_use m (paging b d (MapPage p))) (maps s rd (reply core m s.number (paging b d (MapPage p)))))
  unfolding reply
  maps_changes s i f u rd p true true = map_changes s i f (u ∷ []) rd p (can_map m p) refl
  maps_changes s i f u rd p true false = quiet_changes s i f None (u ∷ []) (Fault cause.Bounds) tt
  maps_changes s i f u rd p false d = quiet_changes s i f None (u ∷ []) (Fault cause.Priv) tt

  unmaps_changes : (s : Slot) (i : Instr) (f : AccessValue) (u : Use) (rd p : ℕ) (b d : Bool)
      → Changes (ended core m s i f (touch_of (paging b d (UnmapPage p))) (u ∷ asked_use m (paging b d (UnmapPage p))) (unmaps s rd (reply core m s.number (paging b d (UnmapPage p)))))
  unfolding reply
  unmaps_changes s i f u rd p true true = unmap_changes s i f (u ∷ asked_use m (UnmapPage p)) rd p (is_mapped m p) refl
  unmaps_changes s i f u rd p true false = quiet_changes s i f None (u ∷ []) (Fault cause.Bounds) tt
  unmaps_changes s i f u rd p false d = quiet_changes s i f None (u ∷ []) (Fault cause.Priv) tt

  loud_changes : (s : Slot) (f : AccessValue) (u : Use) (i : Instr) → IsLoud i → Changes (executed core m s f u i)
  unfolding executed ask effect reply
  loud_changes s f u (Out ra) l = out_changes s (Out ra) f (u ∷ []) (word_bits (register s ra)) (nat_lt (length (output_of core s.group)) (output_limit core.version))
  loud_changes s f u (Ld rd ra pre post imm) l =
      loads_changes core.split s (Ld rd ra pre post imm) f u rd post pre
      (check_result (register s ra) imm (load_kind post)) (kind_by (register s ra) imm (load_kind post)
      (check_result (register s ra) imm (load_kind post)) refl)
  loud_changes s f u (St ra rb pre post imm) l =
      stores_changes s (St ra rb pre post imm) f u (register s rb) post pre (check_result (register s ra) imm Store) (kind_by (register s ra) imm Store (check_result (register s ra) imm Store) refl)
  loud_changes s f u (Map rd ra) l = maps_changes s (Map rd ra) f u rd (word_bits (register s ra)) (is_privileged s.ip.perm) (nat_lt (word_bits (register s ra)) (2 ^ 42))
  loud_changes s f u (Unmap rd ra) l = unmaps_changes s (Unmap rd ra) f u rd (word_bits (register s ra)) (is_privileged s.ip.perm) (nat_lt (word_bits (register s ra)) (2 ^ 42))
  loud_changes s f u _ l = absurd l

  -- 5. The turn.

  execute_changes : (s : Slot) (f : AccessValue) (u : Use) (i : Instr) → Changes (executed core m s f u i)
  unfolding executed
  execute_changes s f u i =
      let asked = ask i s in
      let y = effect core.split i s (reply core m s.number asked) in
      elim (quiet_or_loud s core.split i (reply core m s.number asked)) [
        | inl quiet ↦ quiet_changes s i f (touch_of asked) (u ∷ asked_use m asked) y quiet
        | inr loud ↦ loud_changes s f u i loud
      ]

  pub turn_changes : (n : ℕ) → Changes (turn core m n)
  unfolding put_slot
  turn_changes n = turn_by core m n Changes (record {
    idles = λ k none. idle_changes k;
    arrives_at = λ s p rest free port is. record { memory = Stays refl; outputs = Same refl; version = refl; split = refl };
    starts = λ s r own. started_one core m s Changes (record {
      faults = λ c f done aim. fault_changes s c (Int 0) (Int 0) f None (fetch_uses f done);
      lacks_register = λ f i aim is lacking. block_changes (delivered s) f None (fetch_use f ∷ []);
      carries_out = λ f i aim is has. execute_changes s f (fetch_use f) i;
    });
  })
