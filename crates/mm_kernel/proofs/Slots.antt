-- A thread stands for a slot, and how that is kept.
use Rattle.std.proofs.Common.{◌≡◌, ℕ, ◌+◌, ◌<◌, ◌≤◌, ◌⊎◌, inl, inr, Bool, true, false, ◌&&◌, if◌then◌else◌, nat_eq}
use Rattle.std.proofs.Common.{List, [], ◌∷◌, length, replicate, slice_set, slice_index_or, Option, Some, refl, sym, ap}
use Rattle.std.proofs.Common.{◌∙◌, subst, arith, length-set, get_or-set_same, get_or-set_other}
use Rattle.std.proofs.lemmas.{Bool.{cases_eq, cases_lt, eqb-false}, List.get_or_past}
use Rattle.std.specs.{Prelude.Contains, List.AllByRecursion}
use Rattle.mm_word.specs.{declared.word.Word.{Word, TheVariants.Int}, Pointer.Pointer}
use Rattle.mm_model.specs.declared.slot.SlotState.{SlotState, TheVariants.{Running, Waiting, Taken, Halted}}
use Rattle.mm_model.specs.{declared.slot.Pending.Pending, Slot.{Slot, register, is_empty}, Image.Image, Flags.one_if}
use Rattle.mm_model.specs.{Fits.{loads_for, LoadsMatch, identity_of}, Effect.{delivers, delivered}, Turn.with_issue}
use Rattle.mm_model.proofs.{CoreRows.{each_map, each_both, each_push}, CoreSteps.some_true}
use Rattle.mm_model.proofs.SlotSteps.{empty_within}
use Rattle.mm_kernel.specs.Segments.{Segment, running_slots, is_door}
use Rattle.mm_kernel.specs.declared.{fact.Leak.TheVariants.Loose, form.Form.{Form, TheVariants.{Pointer as Exactly, Any}}}
use Rattle.mm_kernel.specs.declared.thread.{Origin.{Origin, TheVariants.{Door, Slot as OfSlot}}, Thread.Thread}
use Rattle.mm_kernel.specs.{Forms.zero_form, Threads.{form_in, with_form, handler_of, is_kernel, serves_some}}
use Rattle.mm_kernel.specs.{Facts.{loose, Fact.{HasFaulted, HasLeak}}, Derived.{Derived, Keeps}}
use Rattle.mm_kernel.proofs.Owns.{Who.Callers, Mode, Mode.{AsAnyone, AsKernel}, World, KernelOf, party, IfPointer}
use Rattle.mm_kernel.proofs.Owns.{each_pointer, Mine, Has}
use Rattle.mm_kernel.proofs.{Values.{Clean, Fits, Public, public_fits}, Ups.{Free, Next}}
use Rattle.mm_kernel.proofs.Anyone.{anyone, any_register}

-- 1. A slot of the machine: its registers and flags are sixteen, and its loads match.

pub record Sound (s : Slot) : Type 0 where
  pub registers : length s.regs ≡ 16
  pub flags : length s.empty ≡ 16
  pub loads : LoadsMatch s

pub sound_write : (s : Slot) (r : ℕ) (w : Word) → Sound s → Sound (record s { regs = slice_set s.regs r w })
unfolding is_empty
sound_write s r w h = record { registers = length-set s.regs r w ∙ h.registers; flags = h.flags; loads = record { each = h.loads.each } }

pub sound_at : (s : Slot) (ip : Pointer) (past : Bool) (turns : ℕ) (state : SlotState) → Sound s → Sound (record s { ip = ip; past = past; turns = turns; state = state })
unfolding is_empty
sound_at s ip past turns state h = record { registers = h.registers; flags = h.flags; loads = record { each = h.loads.each } }

none_for : (r : ℕ) (ps : List Pending) → loads_for r ps ≡ 0 → AllByRecursion (λ (p : Pending). p.reg ≡ r → ⊥) ps
none_for r [] e = tt
none_for r (p ∷ ps) e = by (nat_eq p.reg r) refl e (λ k. none_for r ps k)
  where
    by : (b : Bool) → nat_eq p.reg r ≡ b → (if b then loads_for r ps + 1 else loads_for r ps) ≡ 0 → (loads_for r ps ≡ 0 → AllByRecursion (λ (q : Pending). q.reg ≡ r → ⊥) ps)
        → AllByRecursion (λ (q : Pending). q.reg ≡ r → ⊥) (p ∷ ps)
    by true at k rest = absurd (omega arith)
    by false at k rest = ((λ same. let no = eqb-false p.reg r at in no same), rest k)

-- a register that waits for nothing has no load
pub nothing_for : (s : Slot) → Sound s → (r : ℕ) → is_empty s r ≡ false → AllByRecursion (λ (p : Pending). p.reg ≡ r → ⊥) s.pending
nothing_for s h r e = none_for r s.pending (h.loads.each r ∙ ap one_if e)

-- a register that a load waits for is one of sixteen
loaded_small : (s : Slot) → Sound s → (p : Pending) (rest : List Pending) → s.pending ≡ p ∷ rest → p.reg < 16
loaded_small s h p rest e =
    let some : loads_for p.reg s.pending ≡ loads_for p.reg rest + 1 = ap (loads_for p.reg) e ∙ here (nat_eq p.reg p.reg) refl in
    let is : is_empty s p.reg ≡ true = some_true (is_empty s p.reg) (let each = h.loads.each p.reg in omega arith) in
    let flags = h.flags in
    let within = empty_within s p.reg is in
    omega arith
  where
    here : (b : Bool) → nat_eq p.reg p.reg ≡ b → (if b then loads_for p.reg rest + 1 else loads_for p.reg rest) ≡ loads_for p.reg rest + 1
    here true at = refl
    here false at = absurd (eqb-false p.reg p.reg at refl)

-- 2. A thread stands for a slot.

-- a slot of the kernel that serves a running one
abbrev pub guards : Image → List Segment → ℕ → Bool
guards i kept n = is_kernel i kept n && serves_some i n

-- where a thread came from, for a slot of a number and a group
abbrev pub OriginOk : (i : Image) (kept : List Segment) → World i kept → Mode → Origin → ℕ → ℕ → Type 0
OriginOk i kept wd AsAnyone o n g = guards i kept n ≡ false
OriginOk i kept wd AsKernel (Door d) n g = (guards i kept n ≡ false) × wd.Own (Callers g) d × (is_door kept d ≡ true)
OriginOk i kept wd AsKernel (OfSlot m) n g = (m ≡ n) × KernelOf i kept m g

-- what holds of a pointer in a register of a thread's slot
abbrev pub Held : (i : Image) (kept : List Segment) → World i kept → Mode → Thread → Slot → Form → Pointer → Type 0
Held i kept wd md t s = Has i kept wd (party md t.origin s.group) md

pub record Match (i : Image) (kept : List Segment) (wd : World i kept) (md : Mode) (t : Thread) (s : Slot) : Type 0 where
  pub ip : t.ip ≡ s.ip
  pub past : t.past ≡ s.past
  pub handler : t.handler ≡ handler_of i kept s.handler
  pub origin : OriginOk i kept wd md t.origin s.number s.group
  pub long : length t.forms ≡ 16
  pub clean : Clean i s.ip
  pub mine : Held i kept wd md t s (Exactly s.ip) s.ip
  pub registers : (r : ℕ) → is_empty s r ≡ false → Fits i kept (Held i kept wd md t s) (form_in t r) (register s r)
  pub pending : AllByRecursion (λ (p : Pending). Fits i kept (Held i kept wd md t s) (form_in t p.reg) p.word) s.pending

module _ (i : Image) (kept : List Segment) (wd : World i kept) (md : Mode) where
  -- 3. Forms that are set.

  pub form_same : (t : Thread) (r : ℕ) (f : Form) → length t.forms ≡ 16 → r < 16 → form_in (with_form t r f) r ≡ f
  unfolding form_in with_form
  form_same t r f long lt = get_or-set_same t.forms r f zero_form (omega arith)

  pub form_other : (t : Thread) (r k : ℕ) (f : Form) → (k ≡ r → ⊥) → form_in (with_form t r f) k ≡ form_in t k
  unfolding form_in with_form
  form_other t r k f ne = get_or-set_other t.forms r k f zero_form ne

  form_fits : (M : Form → Pointer → Type 0) (t : Thread) (r k : ℕ) (f : Form) (w : Word) → (k ≡ r → ⊥) → Fits i kept M (form_in t k) w → Fits i kept M (form_in (with_form t r f) k) w
  form_fits M t r k f w ne h = subst (λ x. Fits i kept M x w) (sym (form_other t r k f ne)) h

  same_fits : (M : Form → Pointer → Type 0) (t : Thread) (r k : ℕ) (f : Form) (w : Word) → length t.forms ≡ 16 → r < 16 → k ≡ r → Fits i kept M f w → Fits i kept M (form_in (with_form t r f) k) w
  same_fits M t r k f w long lt e h = subst (λ x. Fits i kept M (form_in (with_form t r f) x) w) (sym e) (subst (λ x. Fits i kept M x w) (sym (form_same t r f long lt)) h)

  pub with_long : (t : Thread) (r : ℕ) (f : Form) → length t.forms ≡ 16 → length (with_form t r f).forms ≡ 16
  unfolding with_form
  with_long t r f long = length-set t.forms r f ∙ long

  pub match_write : (t : Thread) (s : Slot) (r : ℕ) (f : Form) (w : Word) → Match i kept wd md t s → Sound s → r < 16 → is_empty s r ≡ false → Fits i kept (Held i kept wd md t s) f w
      → Match i kept wd md (with_form t r f) (record s { regs = slice_set s.regs r w })
  unfolding register is_empty with_form
  match_write t s r f w m h lt free fits = record {
    ip = m.ip;
    past = m.past;
    handler = m.handler;
    origin = m.origin;
    long = with_long t r f m.long;
    clean = m.clean;
    mine = m.mine;
    registers = λ k ready. one k ready (cases_eq k r);
    pending =
        each_both (λ (p : Pending). p.reg ≡ r → ⊥) (λ (p : Pending). Fits i kept (Held i kept wd md t s) (form_in t p.reg) p.word)
        (λ (p : Pending). Fits i kept (Held i kept wd md t s) (form_in (with_form t r f) p.reg) p.word) (λ p ne k. form_fits (Held i kept wd md t s) t r p.reg f p.word ne k) s.pending (nothing_for s h r free) m.pending;
  }
    where
      one : (k : ℕ) → slice_index_or s.empty k false ≡ false → (k ≡ r) ⊎ (k ≡ r → ⊥) → Fits i kept (Held i kept wd md t s) (form_in (with_form t r f) k) (slice_index_or (slice_set s.regs r w) k (Int 0))
      one k ready (inl e) =
          let regs = h.registers in
          let at : slice_index_or (slice_set s.regs r w) k (Int 0) ≡ w = ap (λ x. slice_index_or (slice_set s.regs r w) x (Int 0)) e ∙ get_or-set_same s.regs r w (Int 0) (omega arith) in
          subst (Fits i kept (Held i kept wd md t s) (form_in (with_form t r f) k)) (sym at) (same_fits (Held i kept wd md t s) t r k f w m.long lt e fits)
      one k ready (inr ne) =
          subst (Fits i kept (Held i kept wd md t s) (form_in (with_form t r f) k)) (sym (get_or-set_other s.regs r k w (Int 0) ne)) (form_fits (Held i kept wd md t s) t r k f (slice_index_or s.regs k (Int 0)) ne (m.registers k ready))

  pub match_at : (t : Thread) (s : Slot) (ip ip' : Pointer) (past past' : Bool) (turns : ℕ) (state : SlotState) → Match i kept wd md t s → ip ≡ ip' → past ≡ past' → Clean i ip' → Held i kept wd md t s (Exactly ip') ip'
      → Match i kept wd md (record t { ip = ip; past = past }) (record s { ip = ip'; past = past'; turns = turns; state = state })
  unfolding register is_empty form_in
  match_at t s ip ip' past past' turns state m same alike clean mine = record {
    ip = same;
    past = alike;
    handler = m.handler;
    origin = m.origin;
    long = m.long;
    clean = clean;
    mine = mine;
    registers = m.registers;
    pending = m.pending;
  }

  -- a load that is issued: its register is empty, and its form is that of the word to come
  pub match_issue : (t : Thread) (s : Slot) (r : ℕ) (f : Form) (w : Word) → Match i kept wd md t s → Sound s → r < 16 → is_empty s r ≡ false → Fits i kept (Held i kept wd md t s) f w
      → Match i kept wd md (with_form t r f) (with_issue (record s { regs = slice_set s.regs r (Int 0) }) (Some (record { reg = r; word = w })))
  unfolding register is_empty with_form
  match_issue t s r f w m h lt free fits = record {
    ip = m.ip;
    past = m.past;
    handler = m.handler;
    origin = m.origin;
    long = with_long t r f m.long;
    clean = m.clean;
    mine = m.mine;
    registers = λ k ready. one k ready (cases_eq k r);
    pending =
        each_push (λ (p : Pending). Fits i kept (Held i kept wd md t s) (form_in (with_form t r f) p.reg) p.word) s.pending (record { reg = r; word = w })
        (each_both (λ (p : Pending). p.reg ≡ r → ⊥) (λ (p : Pending). Fits i kept (Held i kept wd md t s) (form_in t p.reg) p.word)
        (λ (p : Pending). Fits i kept (Held i kept wd md t s) (form_in (with_form t r f) p.reg) p.word) (λ p ne k. form_fits (Held i kept wd md t s) t r p.reg f p.word ne k) s.pending (nothing_for s h r free) m.pending)
        (same_fits (Held i kept wd md t s) t r r f w m.long lt refl fits);
  }
    where
      one : (k : ℕ) → slice_index_or (slice_set s.empty r true) k false ≡ false → (k ≡ r) ⊎ (k ≡ r → ⊥)
          → Fits i kept (Held i kept wd md t s) (form_in (with_form t r f) k) (slice_index_or (slice_set s.regs r (Int 0)) k (Int 0))
      one k ready (inl e) =
          let flags = h.flags in
          let at : slice_index_or (slice_set s.empty r true) k false ≡ true = ap (λ x. slice_index_or (slice_set s.empty r true) x false) e ∙ get_or-set_same s.empty r true false (omega arith) in
          absurd (cc)
      one k ready (inr ne) =
          subst (Fits i kept (Held i kept wd md t s) (form_in (with_form t r f) k)) (sym (get_or-set_other s.regs r k (Int 0) (Int 0) ne))
          (form_fits (Held i kept wd md t s) t r k f (slice_index_or s.regs k (Int 0)) ne (m.registers k (sym (get_or-set_other s.empty r k true false ne) ∙ ready)))

  match_delivers : (t : Thread) (s : Slot) (p : Pending) (rest : List Pending) → Match i kept wd md t s → Sound s → s.pending ≡ p ∷ rest → Match i kept wd md t (delivers s (p ∷ rest))
  unfolding register is_empty
  match_delivers t s p rest m h e = record {
    ip = m.ip;
    past = m.past;
    handler = m.handler;
    origin = m.origin;
    long = m.long;
    clean = m.clean;
    mine = m.mine;
    registers = λ k ready. one k ready (cases_eq k p.reg);
    pending = parts.1;
  }
    where
      parts : AllByRecursion (λ (q : Pending). Fits i kept (Held i kept wd md t s) (form_in t q.reg) q.word) (p ∷ rest)
      parts = subst (AllByRecursion (λ (q : Pending). Fits i kept (Held i kept wd md t s) (form_in t q.reg) q.word)) e m.pending

      small : p.reg < 16
      small = loaded_small s h p rest e

      one : (k : ℕ) → slice_index_or (slice_set s.empty p.reg false) k false ≡ false → (k ≡ p.reg) ⊎ (k ≡ p.reg → ⊥)
          → Fits i kept (Held i kept wd md t s) (form_in t k) (slice_index_or (slice_set s.regs p.reg p.word) k (Int 0))
      one k ready (inl same) =
          let regs = h.registers in
          let lt = small in
          let at : slice_index_or (slice_set s.regs p.reg p.word) k (Int 0) ≡ p.word = ap (λ x. slice_index_or (slice_set s.regs p.reg p.word) x (Int 0)) same
          ∙ get_or-set_same s.regs p.reg p.word (Int 0) (omega arith) in
          subst (Fits i kept (Held i kept wd md t s) (form_in t k)) (sym at) (subst (λ x. Fits i kept (Held i kept wd md t s) (form_in t x) p.word) (sym same) parts.0)
      one k ready (inr ne) =
          subst (Fits i kept (Held i kept wd md t s) (form_in t k)) (sym (get_or-set_other s.regs p.reg k p.word (Int 0) ne))
          (m.registers k (sym (get_or-set_other s.empty p.reg k false false ne) ∙ ready))

  -- 4. A thread that is free: callers could have each of its words.

  pub origin_guards : Keeps i kept → (o : Origin) (n g : ℕ) → OriginOk i kept wd md o n g → AllByRecursion (Derived i kept) (loose i kept o) → guards i kept n ≡ false
  origin_guards ks o n g h k = by md o h k
    where
      kernel : (m : ℕ) (b : Bool) → guards i kept m ≡ b → AllByRecursion (Derived i kept) (if b then HasLeak (Loose m) ∷ [] else []) → guards i kept m ≡ false
      kernel m true e j = absurd (ks.no_leak (Loose m) j.0)
      kernel m false e j = e

      by : (d : Mode) (o : Origin) → OriginOk i kept wd d o n g → AllByRecursion (Derived i kept) (loose i kept o) → guards i kept n ≡ false
      by AsAnyone o h k = h
      by AsKernel (Door d) h k = h.0
      by AsKernel (OfSlot m) h k = subst (λ x. guards i kept x ≡ false) h.0 (kernel m (guards i kept m) refl k)

  -- a word of anyone's thread
  abbrev pub Anys : Slot → Form → Pointer → Type 0
  Anys s = Has i kept wd (Callers s.group) AsAnyone

  pub any_fits : (t : Thread) (s : Slot) → length t.forms ≡ 16 → (r : ℕ) (w : Word) → Public i kept (form_in t r) → (r < 16 → IfPointer w (Mine i kept wd (Callers s.group)))
      → Fits i kept (Held i kept wd md t s) (form_in t r) w
      → Fits i kept (Anys s) (form_in (anyone t) r) w
  unfolding form_in
  any_fits t s long r w p mine h = by (cases_lt r 16)
    where
      none : 16 ≤ r → form_in t r ≡ zero_form
      none le = get_or_past t.forms r zero_form (omega arith)

      past : 16 ≤ r → form_in (anyone t) r ≡ form_in t r
      past le = get_or_past (replicate 16 Any) r zero_form (omega arith) ∙ sym (none le)

      empty : (v : Word) → v ≡ Int 0 → IfPointer v (Anys s zero_form)
      empty v e = subst (λ (y : Word). IfPointer y (Anys s zero_form)) (sym e) tt

      by : (r < 16) ⊎ (16 ≤ r) → Fits i kept (Anys s) (form_in (anyone t) r) w
      by (inl lt) = subst (λ x. Fits i kept (Anys s) x w) (sym (any_register t r lt))
          (public_fits i kept (Held i kept wd md t s) (Anys s) (form_in t r) w p (each_pointer (Mine i kept wd (Callers s.group)) (Anys s Any) (λ q m o. m) w (mine lt)) h)
      by (inr le) =
          let is : w ≡ Int 0 = (subst (λ x. Fits i kept (Held i kept wd md t s) x w) (none le) h).holds in
          subst (λ x. Fits i kept (Anys s) x w) (sym (past le ∙ none le)) (record { holds = is; clean = h.clean; mine = empty w is })

  pub match_anyone : (t : Thread) (s : Slot) → Match i kept wd md t s → ((r : ℕ) → Public i kept (form_in t r)) → guards i kept s.number ≡ false
      → Mine i kept wd (Callers s.group) s.ip
      → ((r : ℕ) (w : Word) → r < 16 → Fits i kept (Held i kept wd md t s) (form_in t r) w → IfPointer w (Mine i kept wd (Callers s.group)))
      → Match i kept wd AsAnyone (anyone t) s
  match_anyone t s m free out ip mine = record {
    ip = m.ip;
    past = m.past;
    handler = m.handler;
    origin = out;
    long = refl;
    clean = m.clean;
    mine = λ o. ip;
    registers = λ r ready. any_fits t s m.long r (register s r) (free r) (λ lt. mine r (register s r) lt (m.registers r ready)) (m.registers r ready);
    pending = each_map (λ (p : Pending). Fits i kept (Held i kept wd md t s) (form_in t p.reg) p.word) (λ (p : Pending). Fits i kept (Anys s) (form_in (anyone t) p.reg) p.word)
        (λ p k. any_fits t s m.long p.reg p.word (free p.reg) (λ lt. mine p.reg p.word lt k) k) s.pending m.pending;
  }

module _ (i : Image) (kept : List Segment) (wd : World i kept) where
  -- 5. Slots by their states.

  -- the running slot of the image that a slot is
  pub record Came (s : Slot) : Type 0 where
    pub slot : Slot
    pub among : Contains (running_slots i) slot
    pub same : identity_of slot ≡ identity_of s

  pub record HeldFor (t : Thread) (o : Option ℕ) : Type 0 where
    pub handler : ℕ
    pub is : o ≡ Some handler
    pub kernel : is_kernel i kept handler ≡ true
    pub derived : Derived i kept (HasFaulted handler t)

  -- why a thread is stopped
  abbrev pub Why : Mode → Thread → Option ℕ → Type 0
  Why AsAnyone t o = Free i kept t
  Why AsKernel t o = HeldFor t o

  pub record RunningOk (s : Slot) : Type 0 where
    pub came : Came s
    pub mode : Mode
    pub thread : Thread
    pub next : Next i kept wd mode thread
    pub matches : Match i kept wd mode thread s

  pub record StoppedOk (s : Slot) : Type 0 where
    pub came : Came s
    pub mode : Mode
    pub thread : Thread
    pub why : Why mode thread s.handler
    pub matches : Match i kept wd mode thread s

  abbrev pub SlotOkAs : Slot → SlotState → Type 0
  SlotOkAs s Running = RunningOk s
  SlotOkAs s Waiting = StoppedOk s
  SlotOkAs s Taken = StoppedOk s
  SlotOkAs s (Halted cause) = Unit {0}

  abbrev pub SlotOk : Slot → Type 0
  SlotOk s = SlotOkAs s s.state

  pub came_like : (s s' : Slot) → identity_of s ≡ identity_of s' → Came s → Came s'
  came_like s s' e h = record { slot = h.slot; among = h.among; same = h.same ∙ e }

  pub slot_like : (s s' : Slot) → identity_of s ≡ identity_of s' → s.handler ≡ s'.handler → ((md : Mode) (t : Thread) → Match i kept wd md t s → Match i kept wd md t s') → (st : SlotState)
      → SlotOkAs s st → SlotOkAs s' st
  slot_like s s' e k f Running h = record { came = came_like s s' e h.came; mode = h.mode; thread = h.thread; next = h.next; matches = f h.mode h.thread h.matches }
  slot_like s s' e k f Waiting h = record { came = came_like s s' e h.came; mode = h.mode; thread = h.thread; why = subst (Why h.mode h.thread) k h.why; matches = f h.mode h.thread h.matches }
  slot_like s s' e k f Taken h = record { came = came_like s s' e h.came; mode = h.mode; thread = h.thread; why = subst (Why h.mode h.thread) k h.why; matches = f h.mode h.thread h.matches }
  slot_like s s' e k f (Halted cause) h = tt

  pub slot_delivered : (s : Slot) → Sound s → SlotOk s → SlotOk (delivered s)
  unfolding delivered
  slot_delivered s h ok = by s.pending refl
    where
      by : (ps : List Pending) → s.pending ≡ ps → SlotOk (delivers s ps)
      by [] e = ok
      by (p ∷ rest) e = slot_like s (delivers s (p ∷ rest)) refl refl (λ md t m. match_delivers i kept wd md t s p rest m h e) s.state ok
