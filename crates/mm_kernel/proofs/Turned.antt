-- One turn keeps what holds of rows and cells, and uses kept words by code words alone.
use Rattle.std.proofs.Common.{◌≡◌, ℕ, ◌+◌, ◌⊎◌, inl, inr, Bool, true, false, ◌&&◌, nat_lt, ◌^◌, if◌then◌else◌, ℤ, pos}
use Rattle.std.proofs.Common.{List, [], ◌∷◌, ◌++◌, replicate, Option, Some, None, Result, Ok, Err, refl, sym, ap, ◌∙◌}
use Rattle.std.proofs.{Common.{subst, ◌<◌}, lemmas.Bool.{and_from, false_from_ne_true}}
use Rattle.std.specs.{Prelude.{Contains, IfSome}, List.AllByRecursion, Option.option_to_list}
use Rattle.mm_word.specs.declared.perm.{Perm.{Perm, TheVariants.{Ro, Rw, Xu, Xp, Eu, Ep, Key}}, Kind.{Kind, TheVariants.{Fetch, Load, LoadSet, Store}}}
use Rattle.mm_word.specs.declared.cause.Cause.{Cause, TheVariants.{Bounds, NoPage, Illegal, Priv}}
use Rattle.mm_word.specs.declared.word.{Pre.Pre, Post.Post, Word.{Word, TheVariants.{Int, Ptr}}, Cell.Cell}
use Rattle.mm_word.specs.{Access.{AccessValue, IsGranted, check_result}, Perm.can_fetch, Pointer.{Pointer, IsWellFormed, InSegment}}
use Rattle.mm_word.specs.Word.{IsWord, word_bits}
use Rattle.mm_isa.{specs.{declared.instr.Instr.Instr, Table.IsInstr}, proofs.Spelling.instr_of-spelled}
use Rattle.mm_model.specs.declared.slot.SlotState.{SlotState, TheVariants.{Running, Waiting, Taken, Halted}}
use Rattle.mm_model.specs.{declared.slot.Pending.Pending, Memory.{Memory, cell_at}, Uses.{Use, Accessed}}
use Rattle.mm_model.specs.{Slot.{Slot, register}, State.{Core, slot_at, put_slot}, Image.Image}
use Rattle.mm_model.specs.Operands.{addr_operand, value_operand, word_a, word_b, field_a, field_b, field_imm, lacks}
use Rattle.mm_model.specs.Ask.{Ask, ask, reaching, load_kind, is_privileged}
use Rattle.mm_model.specs.Effect.{Effect, effect, delivered, Effect.{Fault, Block, Deliver, Do}}
use Rattle.mm_model.specs.Turn.{Turned, is_running, reply, stood, event_of, faulted, touch_of, asked_use, blocked}
use Rattle.mm_model.specs.Turn.{ended, executed, issued, decoded, instr_in, fetched as fetched_turn, aimed, started, idle, arrives}
use Rattle.mm_model.specs.{Turn.turn, Trace.touches, Counted.writes}
use Rattle.mm_model.proofs.{SlotSteps.delivered_from, EffectWords.each_or, TurnShapes.turn_by}
use Rattle.mm_kernel.specs.Segments.{Segment, meets, is_kept, is_fixed, lies_in, runs_privileged}
use Rattle.mm_kernel.specs.declared.fact.Leak.TheVariants.{Code}
use Rattle.mm_kernel.specs.declared.{form.{Form.{Form, TheVariants.{Pointer as Exactly, Any}}}, outcome.Outcome.Outcome}
use Rattle.mm_kernel.specs.declared.thread.Origin.{Origin, TheVariants.{Door, Slot as OfSlot}}
use Rattle.mm_kernel.specs.{declared.thread.{Handler.Handler, Thread.Thread}, Forms.{zero_form, stored_form}}
use Rattle.mm_kernel.specs.Threads.{form_in, handler_of, handler_as, is_kernel, serves_some, stepped}
use Rattle.mm_kernel.specs.{Facts.Fact.HasThread, Derived.{Derived, Keeps, IsCode, has_segment}}
use Rattle.mm_kernel.specs.{Variants.IsShared, Laws.KeptByCode}
use Rattle.mm_kernel.specs.Uses.{sets_bit, SetsBit, LoadsFrom, Reads, Reads.{fetched, loaded}, Writes, Writes.{stored, set}}
use Rattle.mm_kernel.proofs.Owns.{Who, Who.{Callers, Alone}, Mode, Mode.{AsAnyone, AsKernel}, World, IfPointer, each_pointer}
use Rattle.mm_kernel.proofs.Owns.{falsely, party, Kernels, Only, Mine, Seen, SeenBy}
use Rattle.mm_kernel.proofs.Segs.{not_kept, inside_kept}
use Rattle.mm_kernel.proofs.Values.{Fits, fits_as, shared_outside, fits_number, Public, public_fits, public_shared}
use Rattle.mm_kernel.proofs.Values.{public_number, allows_loads, open_outside}
use Rattle.mm_kernel.proofs.Ups.{Free, Bound, free_is, free_form, up_cases, Next, Faulty, Follows, ByHandler, all_follow}
use Rattle.mm_kernel.proofs.{Anyone.{anyone, anyone_free, anyone_follows}, Results.own_of}
use Rattle.mm_kernel.proofs.Slots.{Sound, OriginOk, Held, Match, match_at, match_anyone, origin_guards, Came}
use Rattle.mm_kernel.proofs.Slots.{came_like, RunningOk, SlotOk, SlotOkAs, slot_delivered}
use Rattle.mm_kernel.proofs.Shares.{ip_own, freed_register, freed_ip, seen_of}
use Rattle.mm_kernel.proofs.Cores.{any_event, RowsOk, put_slot_ok, slot_ok, MemOk, change_rows, change_cells, FaultOk}
use Rattle.mm_kernel.proofs.{Cores.fault_rows, Rows.{WholeForm, Machine, Acts, Ready, EffectOk, reg, word}}
use Rattle.mm_kernel.proofs.{Places.{Through, through, touched_in, pointer_own, load_used, store_used}, Serves.came_serves}
use Rattle.mm_kernel.proofs.{Effects.{ReadyFor, ready_for, ready_all, effect_ok}, Sanes.{thread_whole, ip_whole}}
use Rattle.mm_word.specs.declared.word.Post.TheVariants as posts
use Rattle.mm_isa.specs.declared.instr.Instr.TheVariants as instr
use Rattle.mm_kernel.specs.declared.outcome.Outcome.TheVariants as outcome
use Rattle.mm_kernel.specs.Turns as kernel

spelled_instr : (w : Word) (x : Instr) → instr_in w ≡ Some x → IsInstr x
spelled_instr (Int bits) x is = (instr_of-spelled bits x is).0
spelled_instr (Ptr p) x is = cc

fetch_segment : (perm : Perm) → can_fetch perm ≡ true → runs_privileged perm ≡ false → has_segment perm ≡ true
fetch_segment Xu e u = refl
fetch_segment Xp e u = cc
fetch_segment Ro e u = refl
fetch_segment Rw e u = refl
fetch_segment Eu e u = refl
fetch_segment Ep e u = cc
fetch_segment Key e u = cc

-- 1. What a turn uses.

-- how a thread of the kernel uses a kept word in an access
abbrev pub Using : Kind → Image → List Segment → Thread → ℕ → Type 0
Using Fetch i kept t w = Reads i kept t w
Using Load i kept t w = Reads i kept t w
Using LoadSet i kept t w = Reads i kept t w × Writes i kept t w
Using Store i kept t w = Writes i kept t w

-- the pointer of an access is one of the slot's group, or of the slot by itself
pub record Reached (i : Image) (kept : List Segment) (wd : World i kept) (s : Slot) (a : AccessValue) : Type 0 where
  pub who : Who
  pub whose : (who ≡ Callers s.group) ⊎ (who ≡ Alone s.number)
  pub owns : wd.Own who a.ptr
  pub granted : IsGranted a

-- an access of a thread of the kernel that came through a door of the slot's group, or that is the slot's own
pub record Behind (i : Image) (kept : List Segment) (wd : World i kept) (s : Slot) (a : AccessValue) : Type 0 where
  pub thread : Thread
  pub derived : Derived i kept (HasThread thread)
  pub origin : OriginOk i kept wd AsKernel thread.origin s.number s.group
  pub used : Using a.kind i kept thread a.addr

pub record Touch (i : Image) (kept : List Segment) (wd : World i kept) (s : Slot) (a : AccessValue) : Type 0 where
  pub others : is_kept kept a.addr ≡ false → Reached i kept wd s a
  pub kept_words : is_kept kept a.addr ≡ true → (c : Cell) → cell_at i.memory a.addr ≡ Some c → Behind i kept wd s a

-- an access of a turn of a slot
pub record UsedBy (i : Image) (kept : List Segment) (wd : World i kept) (core : Core) (t : Turned) (a : AccessValue) : Type 0 where
  pub slot : Slot
  pub number : t.step.slot ≡ slot.number
  pub at : slot_at core slot.number ≡ Some slot
  pub came : Came i kept wd slot
  pub touch : Touch i kept wd slot a

-- what the thread of a running slot is: one that is derived, or anyone's
abbrev pub IsThread : Image → List Segment → Mode → Thread → Type 0
IsThread i kept AsAnyone t = Free i kept t
IsThread i kept AsKernel t = Bound i kept t

abbrev pub Freely : (i : Image) (kept : List Segment) → World i kept → Mode → Thread → Type 0
Freely i kept wd AsAnyone t = (x : Instr) → IsInstr x → AllByRecursion (Follows i kept wd AsAnyone t) (kernel.outcomes_of i kept t x)
Freely i kept wd AsKernel t = Unit {0}

module _ (i : Image) (kept : List Segment) (wd : World i kept) (ks : Keeps i kept) (core : Core) (m : Memory) (k : Machine i kept wd core m) (ips : (n : ℕ) (of : Slot) → slot_at core n ≡ Some of → IsWellFormed of.ip) where
  pub record TurnOk (t : Turned) : Type 0 where
    pub rows : RowsOk i kept wd t.core
    pub cells : MemOk i kept wd t.memory
    pub accesses : AllByRecursion (KeptByCode i kept t) (touches t.step)
    pub uses : AllByRecursion (UsedBy i kept wd core t) (touches t.step)

  -- the thread of a running slot
  pub record Runner (s : Slot) (md : Mode) (t : Thread) : Type 0 where
    pub acts : Acts i kept wd md core s t
    pub slot : SlotOk i kept wd s
    pub on : is_running s.state ≡ true
    pub kind : IsThread i kept md t
    pub freely : Freely i kept wd md t

  -- what the uses of a turn are: none, or by a fetch that is of code or of no kept word
  pub data FetchesOk (f t : Option AccessValue) : Type 0 where
    nothing : f ≡ None → t ≡ None → FetchesOk f t
    by_code : (x : AccessValue) → f ≡ Some x → IsCode i kept x.addr → FetchesOk f t
    unkept : IfSome f (λ (x : AccessValue). is_kept kept x.addr ≡ false) → IfSome t (λ (x : AccessValue). is_kept kept x.addr ≡ false) → FetchesOk f t

  fetches_kept : (u : Turned) (f t : Option AccessValue) → u.step.fetched ≡ f → u.step.touched ≡ t → FetchesOk f t → AllByRecursion (KeptByCode i kept u) (touches u.step)
  fetches_kept u f t fe te ok = subst (λ (y : Option AccessValue). AllByRecursion (KeptByCode i kept u) (option_to_list y ++ option_to_list u.step.touched)) (sym fe)
      (subst (λ (y : Option AccessValue). AllByRecursion (KeptByCode i kept u) (option_to_list f ++ option_to_list y)) (sym te) (by f t fe ok))
    where
      coded : (x : AccessValue) → u.step.fetched ≡ Some x → IsCode i kept x.addr → (y : AccessValue) → KeptByCode i kept u y
      coded x e c y = λ is. (x, e, c)

      plainly : (y : AccessValue) → is_kept kept y.addr ≡ false → KeptByCode i kept u y
      plainly y e = λ is. absurd (cc)

      both : (f t : Option AccessValue) → ((y : AccessValue) → KeptByCode i kept u y) → AllByRecursion (KeptByCode i kept u) (option_to_list f ++ option_to_list t)
      both None None h = tt
      both None (Some y) h = (h y, tt)
      both (Some x) None h = (h x, tt)
      both (Some x) (Some y) h = (h x, (h y, tt))

      none : (f t : Option AccessValue) → IfSome f (λ (x : AccessValue). is_kept kept x.addr ≡ false) → IfSome t (λ (x : AccessValue). is_kept kept x.addr ≡ false)
          → AllByRecursion (KeptByCode i kept u) (option_to_list f ++ option_to_list t)
      none None None h j = tt
      none None (Some y) h j = (plainly y j, tt)
      none (Some x) None h j = (plainly x h, tt)
      none (Some x) (Some y) h j = (plainly x h, (plainly y j, tt))

      by : (f t : Option AccessValue) → u.step.fetched ≡ f → FetchesOk f t → AllByRecursion (KeptByCode i kept u) (option_to_list f ++ option_to_list t)
      by f t e (nothing fn tn) = subst (λ (y : Option AccessValue). AllByRecursion (KeptByCode i kept u) (option_to_list y ++ option_to_list t)) (sym fn)
          (subst (λ (y : Option AccessValue). AllByRecursion (KeptByCode i kept u) (option_to_list y)) (sym tn) tt)
      by f t e (by_code x is c) = both f t (coded x (e ∙ is) c)
      by f t e (unkept h j) = none f t h j

  touches_used : (s : Slot) (u : Turned) (f t : Option AccessValue) → slot_at core s.number ≡ Some s → Came i kept wd s → u.step.slot ≡ s.number → u.step.fetched ≡ f → u.step.touched ≡ t
      → IfSome f (Touch i kept wd s) → IfSome t (Touch i kept wd s) → AllByRecursion (UsedBy i kept wd core u) (touches u.step)
  touches_used s u f t at came number fe te hf ht = subst (λ (y : Option AccessValue). AllByRecursion (UsedBy i kept wd core u) (option_to_list y ++ option_to_list u.step.touched)) (sym fe)
      (subst (λ (y : Option AccessValue). AllByRecursion (UsedBy i kept wd core u) (option_to_list f ++ option_to_list y)) (sym te) (both f t hf ht))
    where
      used : (y : AccessValue) → Touch i kept wd s y → UsedBy i kept wd core u y
      used y h = record { slot = s; number = number; at = at; came = came; touch = h }

      both : (f t : Option AccessValue) → IfSome f (Touch i kept wd s) → IfSome t (Touch i kept wd s) → AllByRecursion (UsedBy i kept wd core u) (option_to_list f ++ option_to_list t)
      both None None h j = tt
      both None (Some y) h j = (used y j, tt)
      both (Some x) None h j = (used x h, tt)
      both (Some x) (Some y) h j = (used x h, (used y j, tt))

  running_ok : (s : Slot) (st : SlotState) → is_running st ≡ true → SlotOkAs i kept wd s st → RunningOk i kept wd s
  running_ok s Running e h = h
  running_ok s Waiting e h = cc
  running_ok s Taken e h = cc
  running_ok s (Halted c) e h = cc

  module _ (s : Slot) (md : Mode) (t : Thread) (r : Runner s md t) where
    sound : Sound s
    sound = k.sound s.number s r.acts.at

    runs : can_fetch s.ip.perm ≡ true
    runs = k.runs s.number s r.acts.at

    pub record UsesOk (f to : Option AccessValue) : Type 0 where
      pub code : FetchesOk f to
      pub fetched : IfSome f (Touch i kept wd s)
      pub touched : IfSome to (Touch i kept wd s)

    uses_kept : (u : Turned) (f to : Option AccessValue) → u.step.fetched ≡ f → u.step.touched ≡ to → UsesOk f to → AllByRecursion (KeptByCode i kept u) (touches u.step)
    uses_kept u f to fe te ok = fetches_kept u f to fe te ok.code

    uses_used : (u : Turned) (f to : Option AccessValue) → u.step.slot ≡ s.number → u.step.fetched ≡ f → u.step.touched ≡ to → UsesOk f to → AllByRecursion (UsedBy i kept wd core u) (touches u.step)
    uses_used u f to n fe te ok = touches_used s u f to r.acts.at r.acts.came n fe te ok.fetched ok.touched

    none_used : UsesOk None None
    none_used = record { code = nothing refl refl; fetched = tt; touched = tt }

    -- 2. The slot stands still.

    stood_match : (d : Mode) → Match i kept wd d t s → (state : SlotState) → Match i kept wd d t (stood s state)
    stood_match d h state = match_at i kept wd d t s t.ip s.ip t.past s.past (s.turns + 1) state h h.ip h.past h.clean h.mine

    stood_running : RunningOk i kept wd (stood s Running)
    stood_running = record { came = came_like i kept wd s (stood s Running) refl r.acts.came; mode = md; thread = t; next = r.acts.next; matches = stood_match md r.acts.matches Running }

    blocked_ok : (mid : Core) → RowsOk i kept wd mid → (f : AccessValue) (to : Option AccessValue) (us : List Use) → UsesOk (Some f) to → TurnOk (blocked mid m s f to us)
    unfolding blocked
    blocked_ok mid rows f to us uses = record {
      rows = put_slot_ok i kept wd mid (stood s Running) rows stood_running;
      cells = k.cells;
      accesses = uses_kept (blocked mid m s f to us) (Some f) to refl refl uses;
      uses = uses_used (blocked mid m s f to us) (Some f) to refl refl refl uses;
    }

    -- 3. Faults.

    -- the words of a fault, for its handler
    seen : (d : Mode) (h : ℕ) → Match i kept wd d t s → s.handler ≡ Some h → Kernels d (is_kernel i kept h ≡ true) → (q : Pointer) → Mine i kept wd (party d t.origin s.group) q → Seen i kept wd h q
    seen d h mt e is q mine = seen_of i kept wd d t.origin s h q r.acts.came mt.origin e is mine

    fault_as : (d : Mode) (c : Cause) (a v : Word) (fa fv : Form) (h : ℕ) → Match i kept wd d t s → s.handler ≡ Some h → Fits i kept (Held i kept wd d t s) fa a → Fits i kept (Held i kept wd d t s) fv v
        → (Free i kept t → Public i kept fa) → (Free i kept t → Public i kept fv)
        → Faulty i kept d t fa fv → FaultOk i kept wd s (event_of s c a v) (Some h)
    unfolding event_of
    fault_as AsAnyone c a v fa fv h mt e ha hv pa pv free = (
      record { came = came_like i kept wd s (stood s Waiting) refl r.acts.came; mode = AsAnyone; thread = t; why = free; matches = stood_match AsAnyone mt Waiting },
      record {
        event = any_event i kept wd;
        ip = record { holds = shared_outside i kept s.ip (ap (meets kept) (sym mt.ip) ∙ free.outside) mt.clean.user; clean = mt.clean; mine = λ carried. seen AsAnyone h mt e tt s.ip (mt.mine tt) };
        address = public_fits i kept (Held i kept wd AsAnyone t s) (SeenBy i kept wd h) fa a (pa free) (gives fa a ha.mine) ha;
        value = public_fits i kept (Held i kept wd AsAnyone t s) (SeenBy i kept wd h) fv v (pv free) (gives fv v hv.mine) hv;
        from = inl refl;
      },
    )
      where
        gives : (f : Form) (w : Word) → IfPointer w (Held i kept wd AsAnyone t s f) → IfPointer w (SeenBy i kept wd h Any)
        gives f w own = each_pointer (Held i kept wd AsAnyone t s f) (SeenBy i kept wd h Any) (λ q own carried. seen AsAnyone h mt e tt q (own tt)) w own
    fault_as AsKernel c a v fa fv h mt e ha hv pa pv why = go (is_kernel i kept h) refl (subst (λ (y : Handler). ByHandler i kept t y fa fv) (mt.handler ∙ ap (handler_of i kept) e) why)
      where
        go : (b : Bool) → is_kernel i kept h ≡ b → ByHandler i kept t (handler_as h b) fa fv → FaultOk i kept wd s (event_of s c a v) (Some h)
        go false is w = absurd w
        go true is w = (
          record { came = came_like i kept wd s (stood s Waiting) refl r.acts.came; mode = AsKernel; thread = t; why = record { handler = h; is = e; kernel = is; derived = w.1 }; matches = stood_match AsKernel mt Waiting },
          record {
            event = record { ip = Exactly t.ip; address = fa; value = fv };
            ip = record { holds = ap (λ (p : Pointer). Ptr p) (sym mt.ip); clean = mt.clean; mine = λ carried. falsely carried };
            address = fits_as i kept (Held i kept wd AsKernel t s) (SeenBy i kept wd h) fa a (λ q own carried. seen AsKernel h mt e is q (own carried)) ha;
            value = fits_as i kept (Held i kept wd AsKernel t s) (SeenBy i kept wd h) fv v (λ q own carried. seen AsKernel h mt e is q (own carried)) hv;
            from = inr (and_from (is_kernel i kept h) (serves_some i h) is (came_serves i kept wd s h r.acts.came e), w.0);
          },
        )

    fault_by : (c : Cause) (a v : Word) (fa fv : Form) (o : Option ℕ) → s.handler ≡ o → Fits i kept (Held i kept wd md t s) fa a → Fits i kept (Held i kept wd md t s) fv v
        → (Free i kept t → Public i kept fa) → (Free i kept t → Public i kept fv)
        → Faulty i kept md t fa fv → FaultOk i kept wd s (event_of s c a v) o
    fault_by c a v fa fv None e ha hv pa pv why = stood_running
    fault_by c a v fa fv (Some h) e ha hv pa pv why = fault_as md c a v fa fv h r.acts.matches e ha hv pa pv why

    faulted_ok : (c : Cause) (a v : Word) (fa fv : Form) (f to : Option AccessValue) (us : List Use) → Fits i kept (Held i kept wd md t s) fa a → Fits i kept (Held i kept wd md t s) fv v → (Free i kept t → Public i kept fa)
        → (Free i kept t → Public i kept fv)
        → Follows i kept wd md t (outcome.Faults fa fv) → UsesOk f to → TurnOk (faulted core m s c a v f to us)
    unfolding faulted
    faulted_ok c a v fa fv f to us ha hv pa pv why uses = record {
      rows = fault_rows i kept wd core s (event_of s c a v) s.handler k.rows (fault_by c a v fa fv s.handler refl ha hv pa pv why);
      cells = k.cells;
      accesses = uses_kept (faulted core m s c a v f to us) f to refl refl uses;
      uses = uses_used (faulted core m s c a v f to us) f to refl refl refl uses;
    }

    early_ok : (c : Cause) (f : Option AccessValue) (us : List Use) → Follows i kept wd md t kernel.early_fault → UsesOk f None → TurnOk (faulted core m s c (Int 0) (Int 0) f None us)
    early_ok c f us why uses = faulted_ok c (Int 0) (Int 0) zero_form zero_form f None us (fits_number i kept (Held i kept wd md t s) 0) (fits_number i kept (Held i kept wd md t s) 0) (λ x. public_number i kept 0)
        (λ x. public_number i kept 0) why uses

    -- 4. An instruction.

    public_a : (o : Option ℕ) → Free i kept t → Public i kept (kernel.operand_a t o)
    public_a None free = public_number i kept 0
    public_a (Some x) free = free_form i kept t free x

    public_b : (o : Option ℕ) (imm : ℤ) → Free i kept t → Public i kept (kernel.operand_b t o imm)
    public_b None imm free = public_number i kept _
    public_b (Some x) imm free = free_form i kept t free x

    fits_a : (o : Option ℕ) → IfSome o (Ready s) → Fits i kept (Held i kept wd md t s) (kernel.operand_a t o) (word_a s o)
    fits_a None h = fits_number i kept (Held i kept wd md t s) 0
    fits_a (Some x) h = reg i kept wd md core m k s t r.acts x h

    fits_b : (o : Option ℕ) (imm : ℤ) → IfSome o (Ready s) → Fits i kept (Held i kept wd md t s) (kernel.operand_b t o imm) (word_b s o imm)
    fits_b None imm h = fits_number i kept (Held i kept wd md t s) _
    fits_b (Some x) imm h = reg i kept wd md core m k s t r.acts x h

    ended_ok : (x : Instr) (f : AccessValue) (to : Option AccessValue) (us : List Use) (e : Effect) → ReadyFor s x → EffectOk i kept wd md core m k s t r.acts x e → UsesOk (Some f) to
        → TurnOk (ended core m s x f to us e)
    unfolding ended addr_operand value_operand kernel.fault
    ended_ok x f to us (Fault c) h ok uses =
        faulted_ok c (addr_operand x s) (value_operand x s) (kernel.operand_a t (field_a x)) (kernel.operand_b t (field_b x) (field_imm x)) (Some f) to us
        (fits_a (field_a x) h.a) (fits_b (field_b x) (field_imm x) h.b) (public_a (field_a x)) (public_b (field_b x) (field_imm x)) ok uses
    ended_ok x f to us Block h ok uses = blocked_ok core k.rows f to us uses
    ended_ok x f to us (Deliver o) h ok uses = blocked_ok (put_slot core o) (put_slot_ok i kept wd core o k.rows ok) f to us uses
    ended_ok x f to us (Do c) h ok uses = record {
      rows = change_rows i kept wd core m s c k.rows ok;
      cells = change_cells i kept wd m s c k.cells ok;
      accesses = uses_kept (ended core m s x f to us (Do c)) (Some f) to refl refl uses;
      uses = uses_used (ended core m s x f to us (Do c)) (Some f) to refl refl refl uses;
    }

    -- 5. Accesses.

    reach_free : (w : Word) (by : ℤ) (kind : Kind) (pre : Pre) (x : Result AccessValue Cause) → IsWord w → IsShared i kept w → check_result w by kind ≡ x
        → IfSome (touch_of (reaching x pre)) (λ (y : AccessValue). is_kept kept y.addr ≡ false)
    reach_free w by kind pre (Err c) h sh e = tt
    reach_free w by kind pre (Ok to) h sh e =
        let th = through w by kind to h e in
        let ptr : IsShared i kept (Ptr to.ptr) = subst (IsShared i kept) th.is sh in
        not_kept kept to.ptr to.addr (touched_in to th.granted) (open_outside kept to.ptr ptr.open_word (allows_loads to.ptr.perm kind th.right))

    shared_reg : Free i kept t → (x : ℕ) → Ready s x → IsShared i kept (register s x)
    shared_reg free x h = public_shared i kept (form_in t x) (register s x) (free_form i kept t free x) (reg i kept wd md core m k s t r.acts x h).holds

    page_free : (P : AccessValue → Type 0) (a : Ask) (b c : Bool) → touch_of a ≡ None → IfSome (touch_of (if b then (if c then a else Ask.Refuse Bounds) else Ask.Refuse Priv)) P
    page_free P a true true none = subst (λ o. IfSome o P) (sym none) tt
    page_free P a true false none = tt
    page_free P a false c none = tt

    touch_free : Free i kept t → (x : Instr) → ReadyFor s x → IfSome (touch_of (ask x s)) (λ (y : AccessValue). is_kept kept y.addr ≡ false)
    unfolding ask
    touch_free free (instr.Ld rd ra pre post imm) h =
        reach_free (register s ra) imm (load_kind post) pre (check_result (register s ra) imm (load_kind post)) (word i kept wd md core m k s t r.acts ra) (shared_reg free ra h.a) refl
    touch_free free (instr.St ra rb pre post imm) h =
        reach_free (register s ra) imm Store pre (check_result (register s ra) imm Store) (word i kept wd md core m k s t r.acts ra) (shared_reg free ra h.a) refl
    touch_free free (instr.Map rd ra) h = page_free (λ (y : AccessValue). is_kept kept y.addr ≡ false) (Ask.MapPage (word_bits (register s ra))) (is_privileged s.ip.perm)
        (nat_lt (word_bits (register s ra)) (2 ^ 42)) refl
    touch_free free (instr.Unmap rd ra) h = page_free (λ (y : AccessValue). is_kept kept y.addr ≡ false) (Ask.UnmapPage (word_bits (register s ra))) (is_privileged s.ip.perm)
        (nat_lt (word_bits (register s ra)) (2 ^ 42)) refl
    touch_free free _ h = tt

    fetch_free : (f : AccessValue) → Free i kept t → check_result (Ptr s.ip) (pos 0) Fetch ≡ Ok f → is_kept kept f.addr ≡ false
    fetch_free f free e =
        let th = through (Ptr s.ip) (pos 0) Fetch f (ip_word) e in
        let same : s.ip ≡ f.ptr = let two : Ptr s.ip ≡ Ptr f.ptr = th.is in cc in
        not_kept kept f.ptr f.addr (touched_in f th.granted) (ap (meets kept) (sym same) ∙ (ap (meets kept) (sym r.acts.matches.ip) ∙ free.outside))
      where
        ip_word : IsWord (Ptr s.ip)
        ip_word = ips s.number s r.acts.at

    -- the fetch of a derived thread is of a code word
    fetch_code : (f : AccessValue) → Bound i kept t → s.past ≡ false → check_result (Ptr s.ip) (pos 0) Fetch ≡ Ok f → IsCode i kept f.addr
    fetch_code f b on e = record {
      thread = t;
      derived = b.derived;
      fetches = record { on = r.acts.matches.past ∙ on; access = f; checked = ap (λ (p : Pointer). check_result (Ptr p) (pos 0) Fetch) r.acts.matches.ip ∙ e; at = refl };
    }

    -- what a turn uses is of the slot's holders, or of the kernel's code
    behind : (d : Mode) (A : Type 0) (a : AccessValue) → IsThread i kept d t → OriginOk i kept wd d t.origin s.number s.group → Only d A → (A → Using a.kind i kept t a.addr) → Behind i kept wd s a
    behind AsAnyone A a is h only f = absurd only
    behind AsKernel A a is h only f = record { thread = t; derived = is.derived; origin = h; used = f only }

    whose : (d : Mode) (o : Origin) → OriginOk i kept wd d o s.number s.group → (party d o s.group ≡ Callers s.group) ⊎ (party d o s.group ≡ Alone s.number)
    whose AsAnyone o h = inl refl
    whose AsKernel (Door d) h = inl refl
    whose AsKernel (OfSlot n) h = inr (ap (λ (y : ℕ). Alone y) h.0)

    fetch_touch : (f : AccessValue) → s.past ≡ false → check_result (Ptr s.ip) (pos 0) Fetch ≡ Ok f → Touch i kept wd s f
    fetch_touch f on e = by md r.kind r.acts.matches r.acts.next
      where
        th : Through (Ptr s.ip) Fetch f
        th = through (Ptr s.ip) (pos 0) Fetch f (ips s.number s r.acts.at) e

        same : s.ip ≡ f.ptr
        same = let two : Ptr s.ip ≡ Ptr f.ptr = th.is in cc

        no_key : s.ip.perm ≡ Key → ⊥
        no_key key = let no : can_fetch s.ip.perm ≡ false = ap can_fetch key in let yes = runs in cc

        reached : (d : Mode) → OriginOk i kept wd d t.origin s.number s.group → wd.Own (party d t.origin s.group) s.ip → Reached i kept wd s f
        reached d h own = record { who = party d t.origin s.group; whose = whose d t.origin h; owns = subst (λ (p : Pointer). wd.Own (party d t.origin s.group) p) same own; granted = th.granted }

        by : (d : Mode) → IsThread i kept d t → Match i kept wd d t s → Next i kept wd d t → Touch i kept wd s f
        by AsAnyone free mt next = record {
          others = λ out. reached AsAnyone mt.origin (own_of i kept wd (Callers s.group) s.ip no_key (mt.mine tt));
          kept_words = λ is c at. let out = fetch_free f free e in absurd (cc);
        }
        by AsKernel b mt taken = record {
          others = λ out. reached AsKernel mt.origin (subst (λ (p : Pointer). wd.Own (party AsKernel t.origin s.group) p) mt.ip (own out));
          kept_words = λ is c at. record { thread = t; derived = b.derived; origin = mt.origin; used = subst (λ (kind : Kind). Using kind i kept t f.addr) (sym th.of_kind) reads };
        }
          where
            ip : t.ip ≡ f.ptr
            ip = mt.ip ∙ same

            user : runs_privileged t.ip.perm ≡ false
            user = ap (λ (p : Pointer). runs_privileged p.perm) mt.ip ∙ mt.clean.user

            here : InSegment t.ip f.addr
            here = subst (λ (p : Pointer). InSegment p f.addr) (sym ip) (touched_in f th.granted)

            goes : can_fetch t.ip.perm ≡ true
            goes = ap (λ (p : Pointer). can_fetch p.perm) mt.ip ∙ runs

            outside : is_kept kept f.addr ≡ false → meets kept t.ip ≡ false
            outside out = false_from_ne_true (meets kept t.ip)
                (λ e. let is : is_kept kept f.addr ≡ true = inside_kept kept t.ip f.addr here (ip_whole i kept ks t b.derived (fetch_segment t.ip.perm goes user) e) in cc)

            own : is_kept kept f.addr ≡ false → wd.Own (party AsKernel t.origin s.group) t.ip
            own out = ip_own i kept wd t s mt taken (outside out) user

            reads : Reads i kept t f.addr
            reads = fetched
                (record { on = mt.past ∙ on; access = f; checked = ap (λ (p : Pointer). check_result (Ptr p) (pos 0) Fetch) mt.ip ∙ e; at = refl })

    uses_of : (f : AccessValue) (to : Option AccessValue) → s.past ≡ false → check_result (Ptr s.ip) (pos 0) Fetch ≡ Ok f
        → (Free i kept t → IfSome to (λ (y : AccessValue). is_kept kept y.addr ≡ false)) → IfSome to (Touch i kept wd s)
        → UsesOk (Some f) to
    uses_of f to on e touched uses = record { code = by md r.kind; fetched = fetch_touch f on e; touched = uses }
      where
        by : (d : Mode) → IsThread i kept d t → FetchesOk (Some f) to
        by AsAnyone free = unkept (fetch_free f free e) (touched free)
        by AsKernel b = by_code f refl (fetch_code f b on e)

    -- 6. The turn of a running slot.

    abbrev Alls : List Outcome → Type 0
    Alls os = AllByRecursion (Follows i kept wd md t) os

    -- of a derived thread
    abbrev Each : List Outcome → Type 0
    Each os = AllByRecursion (Follows i kept wd AsKernel t) os

    -- a derived thread comes to what the fetch comes to
    aims : Bound i kept t → s.past ≡ false → Each (kernel.aimed i kept t (check_result (Ptr s.ip) (pos 0) Fetch))
    unfolding kernel.outcomes
    aims b on =
        subst (λ (p : Pointer). Each (kernel.aimed i kept t (check_result (Ptr p) (pos 0) Fetch))) r.acts.matches.ip
        (subst (λ y. Each (if y then kernel.early_fault ∷ [] else kernel.aimed i kept t (check_result (Ptr t.ip) (pos 0) Fetch))) (r.acts.matches.past ∙ on)
        (all_follow i kept ks wd t r.acts.matches.long b))

    either : (Bound i kept t → Follows i kept wd AsKernel t kernel.early_fault) → Follows i kept wd md t kernel.early_fault
    either f = by md r.kind
      where
        by : (d : Mode) → IsThread i kept d t → Follows i kept wd d t kernel.early_fault
        by AsAnyone free = free
        by AsKernel b = f b

    past_follows : s.past ≡ true → Follows i kept wd md t kernel.early_fault
    unfolding kernel.outcomes
    past_follows e = either (λ b.
        (subst (λ y. Each (if y then kernel.early_fault ∷ [] else kernel.aimed i kept t (check_result (Ptr t.ip) (pos 0) Fetch))) (r.acts.matches.past ∙ e)
        (all_follow i kept ks wd t r.acts.matches.long b)).0)

    fetches : Bound i kept t → s.past ≡ false → (f : AccessValue) → check_result (Ptr s.ip) (pos 0) Fetch ≡ Ok f → (o : Option Cell) → cell_at i.memory f.addr ≡ o
        → Each (kernel.fetched i kept t f.addr o)
    fetches b on f e o at = subst (λ y. Each (kernel.fetched i kept t f.addr y)) at (subst (λ y. Each (kernel.aimed i kept t y)) e (aims b on))

    missing : Bound i kept t → s.past ≡ false → (f : AccessValue) → check_result (Ptr s.ip) (pos 0) Fetch ≡ Ok f → cell_at m f.addr ≡ None → Follows i kept wd AsKernel t kernel.early_fault
    missing b on f e none = by (cell_at i.memory f.addr) refl (fetches b on f e (cell_at i.memory f.addr) refl)
      where
        by : (o : Option Cell) → cell_at i.memory f.addr ≡ o → Each (kernel.fetched i kept t f.addr o) → Follows i kept wd AsKernel t kernel.early_fault
        by None at g = g.0
        by (Some d) at g = let back = k.cells.back f.addr d at in let is = back.1 in absurd (cc)

    -- the code word of a derived thread, in the image as it is now
    pub record Coded (f : AccessValue) (c : Cell) : Type 0 where
      pub cell : Cell
      pub there : cell_at i.memory f.addr ≡ Some cell
      pub same : cell ≡ c
      pub all : Each (kernel.decoded i kept t (instr_in c.word))

    coded : Bound i kept t → s.past ≡ false → (f : AccessValue) → check_result (Ptr s.ip) (pos 0) Fetch ≡ Ok f → (c : Cell) → cell_at m f.addr ≡ Some c → Coded f c
    coded b on f e c at =
        let there = k.cells.there f.addr c at in
        by (is_fixed i f.addr) there.0 refl there.1 (fetches b on f e (Some there.0) there.1)
      where
        by : (z : Bool) (d : Cell) → is_fixed i f.addr ≡ z → cell_at i.memory f.addr ≡ Some d
            → Each (if z then kernel.decoded i kept t (instr_in d.word) else outcome.Leaks (Code f.addr) ∷ []) → Coded f c
        by false d fx is g = absurd g.0
        by true d fx is g =
            let now = k.cells.fixed f.addr d is fx in
            let same : d ≡ c = cc in
            record { cell = d; there = is; same = same; all = subst (λ (y : Cell). Each (kernel.decoded i kept t (instr_in y.word))) same g }

    decodes : Bound i kept t → s.past ≡ false → (f : AccessValue) → check_result (Ptr s.ip) (pos 0) Fetch ≡ Ok f → (c : Cell) → cell_at m f.addr ≡ Some c
        → Each (kernel.decoded i kept t (instr_in c.word))
    decodes b on f e c at = (coded b on f e c at).all

    ready : (x : Instr) → IsInstr x → (core.split && lacks x s) ≡ false → ReadyFor s x
    ready x h e = by core.split refl e
      where
        by : (b : Bool) → core.split ≡ b → (b && lacks x s) ≡ false → ReadyFor s x
        by true at g = ready_for s x h g
        by false at g = ready_all s x h (λ y. k.mode at s.number s y r.acts.at)

    -- an instruction and its fetch
    pub record Issued (f : AccessValue) (x : Instr) : Type 0 where
      pub on : s.past ≡ false
      pub aim : check_result (Ptr s.ip) (pos 0) Fetch ≡ Ok f
      pub cell : Cell
      pub found : cell_at m f.addr ≡ Some cell
      pub spelled : instr_in cell.word ≡ Some x

    sets_word : (f : AccessValue) (x : Instr) → Issued f x → Bound i kept t → sets_bit x ≡ true → SetsBit i t
    sets_word f x iss b sets =
        let code = coded b iss.on f iss.aim iss.cell iss.found in
        record {
          word = f.addr;
          cell = code.cell;
          instr = x;
          fetches = record { on = r.acts.matches.past ∙ iss.on; access = f; checked = ap (λ (p : Pointer). check_result (Ptr p) (pos 0) Fetch) r.acts.matches.ip ∙ iss.aim; at = refl };
          at = code.there;
          decodes = ap (λ (y : Cell). instr_in y.word) code.same ∙ iss.spelled;
          sets = sets;
        }

    module _ (f : AccessValue) (x : Instr) (iss : Issued f x) (ra : ℕ) (ha : Ready s ra) where
      reached_by : (kind : Kind) (to : AccessValue) → Through (register s ra) kind to → is_kept kept to.addr ≡ false → Reached i kept wd s to
      reached_by kind to th out = record {
        who = party md t.origin s.group;
        whose = whose md t.origin r.acts.matches.origin;
        owns = pointer_own i kept wd md core m k s t r.acts ra (form_in t ra) (register s ra) kind to ha refl (r.acts.whole ra) (reg i kept wd md core m k s t r.acts ra ha) th out;
        granted = th.granted;
      }

      load_touch : (rd : ℕ) (imm : ℤ) (pre : Pre) (post : Post) (res : Result AccessValue Cause) → check_result (register s ra) imm (load_kind post) ≡ res
          → sets_bit x ≡ writes (load_kind post)
          → Alls (kernel.loads i kept t x rd (form_in t ra) imm pre (load_kind post)) → IfSome (touch_of (reaching res pre)) (Touch i kept wd s)
      load_touch rd imm pre post (Err c) e sets all = tt
      load_touch rd imm pre post (Ok to) e sets all = record { others = reached_by (load_kind post) to th; kept_words = at }
        where
          th : Through (register s ra) (load_kind post) to
          th = through (register s ra) imm (load_kind post) to (word i kept wd md core m k s t r.acts ra) e

          at : is_kept kept to.addr ≡ true → (c : Cell) → cell_at i.memory to.addr ≡ Some c → Behind i kept wd s to
          at is c there =
              let used = load_used i kept wd md core m k s t r.acts x rd (form_in t ra) (register s ra) imm pre (load_kind post) to c (reg i kept wd md core m k s t r.acts ra ha) th e is there all in
              by md r.kind r.acts.matches.origin used.part used.among used.here
            where
              how : (post : Post) → sets_bit x ≡ writes (load_kind post) → Bound i kept t → (part : Segment) → LoadsFrom i kept t part → lies_in to.addr part ≡ true
                  → Using (load_kind post) i kept t to.addr
              how posts.Keep sets b part from here = loaded part from here
              how posts.Full sets b part from here = (loaded part from here, set part (sets_word f x iss b sets) from here)
              how posts.Empty sets b part from here = (loaded part from here, set part (sets_word f x iss b sets) from here)

              by : (d : Mode) → IsThread i kept d t → OriginOk i kept wd d t.origin s.number s.group → (part : Segment)
                  → Only d (Contains (kernel.outcomes i kept t) (outcome.Loads part rd (stepped t))) → lies_in to.addr part ≡ true → Behind i kept wd s to
              by AsAnyone free h part among here = absurd among
              by AsKernel b h part among here = record {
                thread = t;
                derived = b.derived;
                origin = h;
                used = subst (λ (kind : Kind). Using kind i kept t to.addr) (sym th.of_kind) (how post sets b part (record { reg = rd; next = stepped t; comes = among }) here);
              }

      store_touch : (rb : ℕ) (imm : ℤ) (pre : Pre) (res : Result AccessValue Cause) → check_result (register s ra) imm Store ≡ res
          → Alls (kernel.stores i kept t x (form_in t ra) rb imm pre) → IfSome (touch_of (reaching res pre)) (Touch i kept wd s)
      store_touch rb imm pre (Err c) e all = tt
      store_touch rb imm pre (Ok to) e all = record { others = reached_by Store to th; kept_words = at }
        where
          th : Through (register s ra) Store to
          th = through (register s ra) imm Store to (word i kept wd md core m k s t r.acts ra) e

          at : is_kept kept to.addr ≡ true → (c : Cell) → cell_at i.memory to.addr ≡ Some c → Behind i kept wd s to
          at is c there =
              let used = store_used i kept wd md core m k s t r.acts x rb (form_in t ra) (register s ra) imm pre to c (reg i kept wd md core m k s t r.acts ra ha) th e is there all in
              behind md (Contains (kernel.outcomes i kept t) (outcome.Stores used.part (stored_form (form_in t rb)))) to r.kind r.acts.matches.origin used.among
              (λ among. subst (λ (kind : Kind). Using kind i kept t to.addr) (sym th.of_kind) (stored used.part (record { form = stored_form (form_in t rb); comes = among }) used.here))

    touched_ok : (f : AccessValue) (x : Instr) → Issued f x → ReadyFor s x → Alls (kernel.outcomes_of i kept t x) → IfSome (touch_of (ask x s)) (Touch i kept wd s)
    unfolding ask kernel.outcomes_of
    touched_ok f (instr.Ld rd ra pre post imm) iss h all =
        load_touch f (instr.Ld rd ra pre post imm) iss ra h.a rd imm pre post (check_result (register s ra) imm (load_kind post)) refl refl all
    touched_ok f (instr.St ra rb pre post imm) iss h all = store_touch f (instr.St ra rb pre post imm) iss ra h.a rb imm pre (check_result (register s ra) imm Store) refl all
    touched_ok f (instr.Map rd ra) iss h all = page_free (Touch i kept wd s) (Ask.MapPage (word_bits (register s ra))) (is_privileged s.ip.perm) (nat_lt (word_bits (register s ra)) (2 ^ 42)) refl
    touched_ok f (instr.Unmap rd ra) iss h all = page_free (Touch i kept wd s) (Ask.UnmapPage (word_bits (register s ra))) (is_privileged s.ip.perm) (nat_lt (word_bits (register s ra)) (2 ^ 42)) refl
    touched_ok f _ iss h all = tt

    lacking_ok : (f : AccessValue) (us : List Use) → UsesOk (Some f) None → TurnOk (blocked core m (delivered s) f None us)
    unfolding blocked
    lacking_ok f us uses =
        let h : RunningOk i kept wd (delivered s) = running_ok (delivered s) (delivered s).state (ap is_running (delivered_from s).state ∙ r.on) (slot_delivered i kept wd s sound r.slot) in
        let mh : Match i kept wd h.mode h.thread (delivered s) = h.matches in
        record {
          rows = put_slot_ok i kept wd core (stood (delivered s) Running) k.rows (record {
            came = came_like i kept wd (delivered s) (stood (delivered s) Running) refl h.came;
            mode = h.mode;
            thread = h.thread;
            next = h.next;
            matches = match_at i kept wd h.mode h.thread (delivered s) h.thread.ip (delivered s).ip h.thread.past (delivered s).past ((delivered s).turns + 1) Running mh mh.ip mh.past mh.clean mh.mine;
          });
          cells = k.cells;
          accesses = uses_kept (blocked core m (delivered s) f None us) (Some f) None refl refl uses;
          uses = uses_used (blocked core m (delivered s) f None us) (Some f) None (delivered_from s).number refl refl uses;
        }

    executed_ok : (f : AccessValue) (u : Use) (x : Instr) → Issued f x → IsInstr x → ReadyFor s x → Alls (kernel.outcomes_of i kept t x)
        → TurnOk (executed core m s f u x)
    unfolding executed
    executed_ok f u x iss h rd all =
        ended_ok x f (touch_of (ask x s)) (u ∷ asked_use m (ask x s)) (effect core.split x s (reply core m s.number (ask x s))) rd
        (effect_ok i kept wd md core m k s t r.acts ks x h rd all) (uses_of f (touch_of (ask x s)) iss.on iss.aim (λ free. touch_free free x rd) (touched_ok f x iss rd all))

    issued_ok : (f : AccessValue) (u : Use) (x : Instr) → Issued f x → IsInstr x → Alls (kernel.outcomes_of i kept t x)
        → TurnOk (issued core m s f u x)
    unfolding issued
    issued_ok f u x iss h all = by (core.split && lacks x s) refl
      where
        by : (b : Bool) → (core.split && lacks x s) ≡ b → TurnOk (if b then blocked core m (delivered s) f None (u ∷ []) else executed core m s f u x)
        by true g = lacking_ok f (u ∷ []) (uses_of f None iss.on iss.aim (λ free. tt) tt)
        by false g = executed_ok f u x iss h (ready x h g) all

    decoded_ok : (f : AccessValue) (u : Use) (c : Cell) (o : Option Instr) → s.past ≡ false → check_result (Ptr s.ip) (pos 0) Fetch ≡ Ok f → cell_at m f.addr ≡ Some c → instr_in c.word ≡ o
        → TurnOk (decoded core m s f u o)
    decoded_ok f u c None on e at is =
        early_ok Illegal (Some f) (u ∷ []) (either (λ b. (subst (λ y. Each (kernel.decoded i kept t y)) is (decodes b on f e c at)).0)) (uses_of f None on e (λ free. tt) tt)
    decoded_ok f u c (Some x) on e at is =
        issued_ok f u x (record { on = on; aim = e; cell = c; found = at; spelled = is }) (spelled_instr c.word x is) (all md r.kind r.freely)
      where
        all : (d : Mode) → IsThread i kept d t → Freely i kept wd d t → AllByRecursion (Follows i kept wd d t) (kernel.outcomes_of i kept t x)
        all AsAnyone free freely = freely x (spelled_instr c.word x is)
        all AsKernel b freely = subst (λ y. Each (kernel.decoded i kept t y)) is (decodes b on f e c at)

    fetched_ok : (f : AccessValue) (o : Option Cell) → s.past ≡ false → check_result (Ptr s.ip) (pos 0) Fetch ≡ Ok f → cell_at m f.addr ≡ o → TurnOk (fetched_turn core m s f o)
    fetched_ok f None on e at = early_ok NoPage (Some f) (Accessed f.kind f.addr false false ∷ []) (either (λ b. missing b on f e at)) (uses_of f None on e (λ free. tt) tt)
    fetched_ok f (Some c) on e at = decoded_ok f (Accessed f.kind f.addr true true) c (instr_in c.word) on e at refl

    aimed_ok : (x : Result AccessValue Cause) → s.past ≡ false → check_result (Ptr s.ip) (pos 0) Fetch ≡ x → TurnOk (aimed core m s x)
    aimed_ok (Err c) on e = early_ok c None [] (either (λ b. (subst (λ y. Each (kernel.aimed i kept t y)) e (aims b on)).0)) none_used
    aimed_ok (Ok f) on e = fetched_ok f (cell_at m f.addr) on e refl

    pub started_ok : TurnOk (started core m s)
    unfolding started
    started_ok = by s.past refl
      where
        by : (b : Bool) → s.past ≡ b → TurnOk (if b then faulted core m s Bounds (Int 0) (Int 0) None None [] else aimed core m s (check_result (Ptr s.ip) (pos 0) Fetch))
        by true e = early_ok Bounds None [] (past_follows e) none_used
        by false e = aimed_ok (check_result (Ptr s.ip) (pos 0) Fetch) e refl

  -- 7. Any turn.

  any_whole : (t : Thread) (x : ℕ) → WholeForm kept (form_in (anyone t) x)
  unfolding form_in
  any_whole t x = each_or (WholeForm kept) (replicate 16 Any) x zero_form (tt, (tt, (tt, (tt, (tt, (tt, (tt, (tt, (tt, (tt, (tt, (tt, (tt, (tt, (tt, (tt, tt)))))))))))))))) tt

  started_by : (s : Slot) → slot_at core s.number ≡ Some s → SlotOk i kept wd s → is_running s.state ≡ true → RunningOk i kept wd s → TurnOk (started core m s)
  started_by s at whole on h = by h.mode h.matches h.next
    where
      -- as anyone's
      freely : (d : Mode) (t : Thread) → Match i kept wd d t s → Free i kept t → Mine i kept wd (Callers s.group) s.ip
          → ((r : ℕ) (w : Word) → r < 16 → Fits i kept (Held i kept wd d t s) (form_in t r) w → IfPointer w (Mine i kept wd (Callers s.group))) → TurnOk (started core m s)
      freely d t mt free own mine =
          let ip : t.ip ≡ s.ip = mt.ip in
          let user : runs_privileged t.ip.perm ≡ false = ap (λ (p : Pointer). runs_privileged p.perm) ip ∙ mt.clean.user in
          let goes : can_fetch t.ip.perm ≡ true = ap (λ (p : Pointer). can_fetch p.perm) ip ∙ k.runs s.number s at in
          let any : Free i kept (anyone t) = anyone_free i kept wd t free.outside user goes in
          started_ok s AsAnyone (anyone t) (record {
            acts = record {
              at = at;
              came = h.came;
              next = any;
              matches = match_anyone i kept wd d t s mt (free_form i kept t free) (origin_guards i kept wd d ks t.origin s.number s.group mt.origin free.fast) own mine;
              whole = any_whole t;
            };
            slot = whole;
            on = on;
            kind = any;
            freely = λ x w. anyone_follows i kept wd t free.outside user goes x w;
          })

      by : (d : Mode) → Match i kept wd d h.thread s → Next i kept wd d h.thread → TurnOk (started core m s)
      by AsAnyone mt free = freely AsAnyone h.thread mt free (mt.mine tt) (λ r w lt f. each_pointer (Held i kept wd AsAnyone h.thread s (form_in h.thread r)) (Mine i kept wd (Callers s.group)) (λ q own. own tt) w f.mine)
      by AsKernel mt taken = kernels (up_cases i kept h.thread (wd.rules.up h.thread taken))
        where
          kernels : Free i kept h.thread ⊎ Bound i kept h.thread → TurnOk (started core m s)
          kernels (inr b) = started_ok s AsKernel h.thread
              (record {
                acts = record { at = at; came = h.came; next = taken; matches = mt; whole = thread_whole i kept ks h.thread b.derived };
                slot = whole;
                on = on;
                kind = b;
                freely = tt;
              })
          kernels (inl free) =
              let is = free_is i kept h.thread free in
              let user : runs_privileged h.thread.ip.perm ≡ false = ap (λ (p : Pointer). runs_privileged p.perm) mt.ip ∙ mt.clean.user in
              freely AsKernel h.thread mt free (freed_ip i kept wd h.thread s mt taken h.came free is user) (λ r w lt f. freed_register i kept wd h.thread s mt taken h.came free is r w lt f)

  arrived_ok : (s : Slot) (p : Pending) (rest : List Pending) → slot_at core s.number ≡ Some s → TurnOk (arrives core m s (p ∷ rest))
  arrived_ok s p rest at = record {
    rows = put_slot_ok i kept wd core (delivered s) k.rows (slot_delivered i kept wd s (k.sound s.number s at) (slot_ok i kept wd core k.rows s.number s at));
    cells = k.cells;
    accesses = tt;
    uses = tt;
  }

  idle_ok : (n : ℕ) → TurnOk (idle core m n)
  unfolding idle
  idle_ok n = record { rows = k.rows; cells = k.cells; accesses = tt; uses = tt }

  pub turn_ok : (n : ℕ) → TurnOk (turn core m n)
  turn_ok n = turn_by core m n TurnOk (record {
    idles = λ j none. idle_ok j;
    arrives_at = λ s p rest free port is. arrived_ok s p rest port.at;
    starts = λ s r own. started_by s own (slot_ok i kept wd core k.rows s.number s own) r.running (running_ok s s.state r.running (slot_ok i kept wd core k.rows s.number s own));
  })
