-- The rows about events and served slots.
use Rattle.std.proofs.Common.{◌≡◌, ℕ, ◌+◌, ◌*◌, ◌<◌, ◌⊎◌, inl, inr, Bool, true, false, ◌&&◌, ◌||◌, if◌then◌else◌}
use Rattle.std.proofs.Common.{eq-eqb, List, [], ◌∷◌, slice_set, Option, Some, None, refl, sym, ap, ◌∙◌, subst, arith}
use Rattle.std.proofs.lemmas.Bool.{and_parts, or_left, or_right}
use Rattle.std.specs.{Prelude.Contains, List.{AllByRecursion, list_any}}
use Rattle.mm_word.specs.{declared.{cause.Cause.Cause, word.Word.{Word, TheVariants.{Int, Ptr}}}, Cause.number_of}
use Rattle.mm_word.specs.Pointer.{Pointer}
use Rattle.mm_isa.specs.declared.instr.{How.{How, TheVariants.{Retry, Skip, Kill}}, Instr.Instr}
use Rattle.mm_model.specs.declared.event.Event.{Event}
use Rattle.mm_model.specs.declared.slot.SlotState.{SlotState, TheVariants.{Running, Waiting, Taken, Halted}}
use Rattle.mm_model.specs.{Memory.Memory, Slot.{Slot, register, is_empty}, State.{Core, slot_at, queue_at}, Image.Image}
use Rattle.mm_model.specs.Fits.{is_waiting}
use Rattle.mm_model.specs.Effect.{Reply, Effect, advanced, runs_past, plain, sets, takes, resumed_by, resumes}
use Rattle.mm_model.specs.Effect.{delivered, reads_of, writes_of}
use Rattle.mm_model.specs.Effect.{Reply.{Refused, Took, Served}, Effect.{Deliver, Do}}
use Rattle.mm_model.specs.Turn.{slot_after, event_reply, first_event, served, is_taken, is_handler}
use Rattle.mm_model.proofs.{CoreRows.{each_contained, each_map, each_set}, CoreSteps.{queued_waits, handler_is}}
use Rattle.mm_kernel.specs.Segments.{Segment, running_slots}
use Rattle.mm_kernel.specs.declared.fact.{Leak.Leak, Handling.Handling}
use Rattle.mm_kernel.specs.declared.form.Form.{Form, TheVariants.{Pointer as Exactly, Integer, Any}}
use Rattle.mm_kernel.specs.declared.outcome.Outcome.{Outcome}
use Rattle.mm_kernel.specs.declared.thread.{Origin.{TheVariants.{Slot as OfSlot}}, Thread.Thread}
use Rattle.mm_kernel.specs.{Forms.carries, Threads.{form_in, with_form, stepped, is_kernel, serves_some}}
use Rattle.mm_kernel.specs.{Facts.Fact.{HasFaulted, HasEvent}, Derived.{Derived, on_after, resumed}}
use Rattle.mm_kernel.proofs.Owns.{Mode, Mode.{AsAnyone, AsKernel}, World, IfPointer, each_pointer, party, Owes, Kernels}
use Rattle.mm_kernel.proofs.Owns.{Mine, Has, SeenBy}
use Rattle.mm_kernel.proofs.Segs.{below_within, outside_within}
use Rattle.mm_kernel.proofs.Values.{clean_below, Holds, Fits, fits_as, fits_integer, Public, public_fits}
use Rattle.mm_kernel.proofs.{Ups.{Free, free_form, Next, Follows}, Anyone.advanced_below, Results.has_below}
use Rattle.mm_kernel.proofs.Slots.{Sound, sound_write, guards, Held, Match, match_write, match_at, Came}
use Rattle.mm_kernel.proofs.Slots.{came_like, HeldFor, Why, StoppedOk, SlotOk, SlotOkAs, slot_delivered}
use Rattle.mm_kernel.proofs.Shares.{public_mine, hands_exact, Server, Server.{of_kernel, of_callers}, server_of}
use Rattle.mm_kernel.proofs.Shares.{takes_mine, read_mine, write_mine}
use Rattle.mm_kernel.proofs.Cores.{any_event, EventOk, slot_ok, queue_ok}
use Rattle.mm_kernel.proofs.Rows.{Machine, Acts, Ready, EffectOk, next_slot, next_match, next_sound, runs_on, steps_on}
use Rattle.mm_kernel.proofs.Rows.{sets_ok}
use Rattle.mm_word.specs.declared.cause.Cause.TheVariants as cause
use Rattle.mm_kernel.specs.declared.outcome.Outcome.TheVariants as outcome
use Rattle.mm_kernel.specs.Turns as kernel

any_among : {A : Type 0} (p : A → Bool) (xs : List A) → AllByRecursion (λ (x : A). p x ≡ true → list_any p xs ≡ true) xs
any_among p [] = tt
any_among p (x ∷ xs) = (
  (λ e. or_left (p x) (list_any p xs) e),
  each_map (λ y. p y ≡ true → list_any p xs ≡ true) (λ y. p y ≡ true → list_any p (x ∷ xs) ≡ true) (λ y f e. or_right (p x) (list_any p xs) (f e)) xs (any_among p xs),
)

pub any_contained : {A : Type 0} (p : A → Bool) (xs : List A) (x : A) → Contains xs x → p x ≡ true → list_any p xs ≡ true
any_contained p xs x c e = each_contained (λ y. p y ≡ true → list_any p xs ≡ true) xs x (any_among p xs) c e

module _ (i : Image) (kept : List Segment) (wd : World i kept) where
  -- the slot that handles a slot which runs serves some
  pub came_serves : (s : Slot) (n : ℕ) → Came i kept wd s → s.handler ≡ Some n → serves_some i n ≡ true
  unfolding serves_some
  came_serves s n h e =
      let handler : h.slot.handler ≡ Some n = ap (λ (y : ℕ × ℕ × Option ℕ). y.2) h.same ∙ e in
      let is : is_handler n h.slot.handler ≡ true = ap (is_handler n) handler ∙ eq-eqb n n refl in
      any_contained (λ (x : Slot). is_handler n x.handler) (running_slots i) h.slot h.among is

  pub match_state : (md : Mode) (t : Thread) (s : Slot) (st : SlotState) → Match i kept wd md t s → Match i kept wd md t (record s { state = st })
  match_state md t s st h = match_at i kept wd md t s t.ip s.ip t.past s.past s.turns st h h.ip h.past h.clean h.mine

  stopped_as : (s : Slot) (st : SlotState) → StoppedOk i kept wd s → StoppedOk i kept wd (record s { state = st })
  stopped_as s st h = record { came = came_like i kept wd s (record s { state = st }) refl h.came; mode = h.mode; thread = h.thread; why = h.why; matches = match_state h.mode h.thread s st h.matches }

  waiting_stopped : (s : Slot) (st : SlotState) → is_waiting st ≡ true → SlotOkAs i kept wd s st → StoppedOk i kept wd s
  waiting_stopped s Waiting e h = h
  waiting_stopped s Running e h = cc
  waiting_stopped s Taken e h = cc
  waiting_stopped s (Halted c) e h = cc

  taken_stopped : (s : Slot) (st : SlotState) → is_taken st ≡ true → SlotOkAs i kept wd s st → StoppedOk i kept wd s
  taken_stopped s Taken e h = h
  taken_stopped s Running e h = cc
  taken_stopped s Waiting e h = cc
  taken_stopped s (Halted c) e h = cc

  taken_as : (s : Slot) (st : SlotState) → is_taken st ≡ true → StoppedOk i kept wd s → SlotOkAs i kept wd s st
  taken_as s Taken e h = h
  taken_as s Running e h = cc
  taken_as s Waiting e h = cc
  taken_as s (Halted c) e h = tt

  pub free_with : (t : Thread) (r : ℕ) (f : Form) → Free i kept t → Public i kept f → Free i kept (with_form t r f)
  unfolding with_form
  free_with t r f h p = record { outside = h.outside; forms = each_set (Public i kept) t.forms r f h.forms p; fast = h.fast }

module _ (i : Image) (kept : List Segment) (wd : World i kept) (md : Mode) (core : Core) (m : Memory) (k : Machine i kept wd core m) (s : Slot) (t : Thread) (a : Acts i kept wd md core s t) where
  abbrev Alls : List Outcome → Type 0
  Alls os = AllByRecursion (Follows i kept wd md t) os

  abbrev Eff : Instr → Effect → Type 0
  Eff x e = EffectOk i kept wd md core m k s t a x e

  -- 1. Events.

  -- how a thread goes on that takes an event, and what is then its
  taken : (rd : ℕ) (e : Handling) → serves_some i s.number ≡ true → (e ≡ any_event i kept wd) ⊎ ((guards i kept s.number ≡ true) × Derived i kept (HasEvent s.number e))
      → Alls (outcome.Goes (kernel.with_event (stepped t) rd Any Any Any) ∷ outcome.TakesEvent rd (stepped t) ∷ []) → Next i kept wd md (kernel.with_event (stepped t) rd e.ip e.address e.value)
  taken rd e some (inl is) all = subst (λ (y : Handling). Next i kept wd md (kernel.with_event (stepped t) rd y.ip y.address y.value)) (sym is) all.0
  taken rd e some (inr g) all = by (server_of i kept wd md t.origin s a.matches.origin some)
    where
      by : Server i kept wd md t.origin s → Next i kept wd md (kernel.with_event (stepped t) rd e.ip e.address e.value)
      by (of_kernel is own alone mode) = all.1.0.1 s.number e own g.1
      by (of_callers none callers) = let yes = (and_parts (is_kernel i kept s.number) (serves_some i s.number) g.0).0 in absurd (cc)

  -- each word of an event whose form is one of those
  carry : (rd : ℕ) (e : Handling) (pick : Handling → Form) → pick (any_event i kept wd) ≡ Any → serves_some i s.number ≡ true
      → (e ≡ any_event i kept wd) ⊎ ((guards i kept s.number ≡ true) × Derived i kept (HasEvent s.number e))
      → Alls (outcome.Goes (kernel.with_event (stepped t) rd Any Any Any) ∷ outcome.TakesEvent rd (stepped t) ∷ []) → (q : Pointer) → SeenBy i kept wd s.number (pick e) q
      → Held i kept wd md t s (pick e) q
  carry rd e pick any some from all q seen = λ o. by from o
    where
      server : Server i kept wd md t.origin s
      server = server_of i kept wd md t.origin s a.matches.origin some

      mine : carries (pick e) ≡ true → Mine i kept wd (party md t.origin s.group) q
      mine c = takes_mine i kept wd md t.origin s q rd (stepped t) server a.came all.1.0.0 (seen c)

      as_kernel : md ≡ AsKernel → Owes md (pick e) → carries (pick e) ≡ true
      as_kernel same o = subst (λ (d : Mode). Owes d (pick e)) same o

      by : (e ≡ any_event i kept wd) ⊎ ((guards i kept s.number ≡ true) × Derived i kept (HasEvent s.number e)) → Owes md (pick e) → Mine i kept wd (party md t.origin s.group) q
      by (inl is) o = mine (ap carries (ap pick is ∙ any))
      by (inr g) o = go server
        where
          go : Server i kept wd md t.origin s → Mine i kept wd (party md t.origin s.group) q
          go (of_kernel is own alone mode) = mine (as_kernel mode o)
          go (of_callers none callers) = let yes = (and_parts (is_kernel i kept s.number) (serves_some i s.number) g.0).0 in absurd (cc)

  event_match : (rd n : ℕ) (e : Event) (g : Handling) → Ready s rd → Ready s (rd + 1) → Ready s (rd + 2) → Ready s (rd + 3) → Fits i kept (Held i kept wd md t s) g.ip (Ptr e.ip)
      → Fits i kept (Held i kept wd md t s) g.address e.addr_op
      → Fits i kept (Held i kept wd md t s) g.value e.value_op
      → Match i kept wd md (kernel.with_event (stepped t) rd g.ip g.address g.value)
      (record (next_slot i kept wd md core m k s t a) { regs = slice_set (slice_set (slice_set (slice_set s.regs rd (Int n)) (rd + 1) (Ptr e.ip)) (rd + 2) e.addr_op) (rd + 3) e.value_op })
  unfolding is_empty stepped with_form
  event_match rd n e g h0 h1 h2 h3 f1 f2 f3 =
      let s0 : Slot = next_slot i kept wd md core m k s t a in
      let so0 : Sound s0 = next_sound i kept wd md core m k s t a in
      let s1 : Slot = record s0 { regs = slice_set s0.regs rd (Int n) } in
      let so1 : Sound s1 = sound_write s0 rd (Int n) so0 in
      let s2 : Slot = record s1 { regs = slice_set s1.regs (rd + 1) (Ptr e.ip) } in
      let so2 : Sound s2 = sound_write s1 (rd + 1) (Ptr e.ip) so1 in
      let s3 : Slot = record s2 { regs = slice_set s2.regs (rd + 2) e.addr_op } in
      let so3 : Sound s3 = sound_write s2 (rd + 2) e.addr_op so2 in
      let t1 : Thread = with_form (stepped t) rd Integer in
      let m1 : Match i kept wd md t1 s1 = match_write i kept wd md (stepped t) s0 rd Integer (Int n) (next_match i kept wd md core m k s t a) so0 h0.small h0.free (fits_integer i kept (Held i kept wd md t s) n) in
      let t2 : Thread = with_form t1 (rd + 1) g.ip in
      let m2 : Match i kept wd md t2 s2 = match_write i kept wd md t1 s1 (rd + 1) g.ip (Ptr e.ip) m1 so1 h1.small h1.free f1 in
      let t3 : Thread = with_form t2 (rd + 2) g.address in
      let m3 : Match i kept wd md t3 s3 = match_write i kept wd md t2 s2 (rd + 2) g.address e.addr_op m2 so2 h2.small h2.free f2 in
      match_write i kept wd md t3 s3 (rd + 3) g.value e.value_op m3 so3 h3.small h3.free f3

  took_ok : (x : Instr) (rd : ℕ) (e : Event) (rest : List Event) (of : Slot) → Ready s rd → Ready s (rd + 1) → Ready s (rd + 2) → Ready s (rd + 3) → EventOk i kept wd s.number e
      → AllByRecursion (EventOk i kept wd s.number) rest
      → StoppedOk i kept wd of → of.handler ≡ Some s.number → Alls (outcome.Goes (kernel.with_event (stepped t) rd Any Any Any) ∷ outcome.TakesEvent rd (stepped t) ∷ []) → Eff x (takes s rd (Took e rest of))
  unfolding plain slot_after
  took_ok x rd e rest of h0 h1 h2 h3 ok others stopped handled all =
      let n : ℕ = number_of e.cause + 256 * e.slot in
      let some : serves_some i s.number ≡ true = came_serves i kept wd of s.number stopped.came handled in
      record {
        own = runs_on i kept wd md core m k s t a (kernel.with_event (stepped t) rd ok.event.ip ok.event.address ok.event.value)
            (record (next_slot i kept wd md core m k s t a) { regs = slice_set (slice_set (slice_set (slice_set s.regs rd (Int n)) (rd + 1) (Ptr e.ip)) (rd + 2) e.addr_op) (rd + 3) e.value_op }) refl
            (taken rd ok.event some ok.from all)
            (event_match rd n e ok.event h0 h1 h2 h3
            (fits_as i kept (SeenBy i kept wd s.number) (Held i kept wd md t s) ok.event.ip (Ptr e.ip) (λ q seen. carry rd ok.event (λ (y : Handling). y.ip) refl some ok.from all q seen) ok.ip)
            (fits_as i kept (SeenBy i kept wd s.number) (Held i kept wd md t s) ok.event.address e.addr_op (λ q seen. carry rd ok.event (λ (y : Handling). y.address) refl some ok.from all q seen) ok.address)
            (fits_as i kept (SeenBy i kept wd s.number) (Held i kept wd md t s) ok.event.value e.value_op (λ q seen. carry rd ok.event (λ (y : Handling). y.value) refl some ok.from all q seen) ok.value));
        cell = tt;
        pages = refl;
        queue = others;
        other = stopped_as i kept wd of Taken stopped;
      }

  pub event_ok : (x : Instr) (rd : ℕ) → Ready s rd → Ready s (rd + 1) → Ready s (rd + 2) → Ready s (rd + 3)
      → Alls (outcome.Goes (kernel.with_event (stepped t) rd Any Any Any) ∷ outcome.TakesEvent rd (stepped t) ∷ []) → Eff x (takes s rd (first_event core (queue_at core s.number)))
  event_ok x rd h0 h1 h2 h3 all = by (queue_at core s.number) refl (queue_ok i kept wd core k.rows s.number)
    where
      by : (q : List Event) → queue_at core s.number ≡ q → AllByRecursion (EventOk i kept wd s.number) q → Eff x (takes s rd (first_event core q))
      by [] is ok = tt
      by (e ∷ rest) is ok = go (slot_at core e.slot) refl
        where
          go : (o : Option Slot) → slot_at core e.slot ≡ o → Eff x (takes s rd (event_reply e rest o))
          go None found = tt
          go (Some of) found =
              let waits =
              (subst (AllByRecursion (λ (y : Event). y.slot ≡ e.slot → (is_waiting of.state ≡ true) × (of.handler ≡ Some s.number))) is
              (queued_waits core k.matched e.slot of found s.number)).0 refl in
              took_ok x rd e rest of h0 h1 h2 h3 ok.0 ok.1 (waiting_stopped i kept wd of of.state waits.0 (slot_ok i kept wd core k.rows e.slot of found)) waits.1 all

  -- 2. Served slots.

  -- a taken slot whose handler this is
  pub record Serves (of : Slot) : Type 0 where
    pub stopped : StoppedOk i kept wd of
    pub sounds : Sound of
    pub taken : is_taken of.state ≡ true
    pub ready : (r : ℕ) → (core.split && is_empty of r) ≡ false → is_empty of r ≡ false
    pub whole : SlotOk i kept wd of
    -- a thread that is held for this slot is held for the origin of this thread
    pub held : HeldFor i kept wd stopped.thread of.handler → (t.origin ≡ OfSlot s.number) × Derived i kept (HasFaulted s.number stopped.thread) × (is_kernel i kept s.number ≡ true)
    pub handled : of.handler ≡ Some s.number
    pub server : Server i kept wd md t.origin s

  serves : (n : ℕ) (of : Slot) → slot_at core n ≡ Some of → of.handler ≡ Some s.number → is_taken of.state ≡ true → Serves of
  serves n of at handled taken = record {
    stopped = stop;
    sounds = k.sound n of at;
    taken = taken;
    ready = λ r e. by core.split r refl e;
    whole = slot_ok i kept wd core k.rows n of at;
    held = λ h.
        let two : ◌≡◌ {A = Option ℕ} (Some h.handler) (Some s.number) = sym h.is ∙ handled in
        let same : h.handler ≡ s.number = cc in
        let kernel_slot : is_kernel i kept s.number ≡ true = ap (is_kernel i kept) (sym same) ∙ h.kernel in (
          own kernel_slot server,
          subst (λ y. Derived i kept (HasFaulted y stop.thread)) same h.derived,
          kernel_slot,
        );
    handled = handled;
    server = server;
  }
    where
      stop : StoppedOk i kept wd of
      stop = taken_stopped i kept wd of of.state taken (slot_ok i kept wd core k.rows n of at)

      server : Server i kept wd md t.origin s
      server = server_of i kept wd md t.origin s a.matches.origin (came_serves i kept wd of s.number stop.came handled)

      own : is_kernel i kept s.number ≡ true → Server i kept wd md t.origin s → t.origin ≡ OfSlot s.number
      own e (of_kernel is from alone mode) = from
      own e (of_callers none callers) = absurd (cc)

      by : (b : Bool) (r : ℕ) → core.split ≡ b → (b && is_empty of r) ≡ false → is_empty of r ≡ false
      by true r e h = h
      by false r e h = k.mode e n of r at

  -- who is held is held by a slot of the kernel
  held_by : (of : Slot) (h : Serves of) → Kernels h.stopped.mode (is_kernel i kept s.number ≡ true)
  held_by of h = by h.stopped.mode h.stopped.why (λ g. (h.held g).2)
    where
      by : (d : Mode) → Why i kept wd d h.stopped.thread of.handler → (HeldFor i kept wd h.stopped.thread of.handler → is_kernel i kept s.number ≡ true) → Kernels d (is_kernel i kept s.number ≡ true)
      by AsAnyone w f = tt
      by AsKernel w f = f w

  pub serve_ok : (x : Instr) (n : ℕ) (f : Reply → Effect) → ((c : Cause) → Eff x (f (Refused c))) → ((of : Slot) → Serves of → Eff x (f (Served of))) → Eff x (f (served s.number (slot_at core n)))
  serve_ok x n f refused good = by (slot_at core n) refl
    where
      passed : (of : Slot) (b : Bool) → slot_at core n ≡ Some of → (is_handler s.number of.handler && is_taken of.state) ≡ b → Eff x (f (if b then Served of else Refused cause.NoSlot))
      passed of true is both = let parts = and_parts (is_handler s.number of.handler) (is_taken of.state) both in good of (serves n of is (handler_is s.number of.handler parts.0) parts.1)
      passed of false is both = refused cause.NoSlot

      by : (o : Option Slot) → slot_at core n ≡ o → Eff x (f (served s.number o))
      by None is = refused cause.NoSlot
      by (Some of) is = passed of (is_handler s.number of.handler && is_taken of.state) is refl

  -- resumed

  again : (of : Slot) (h : Serves of) (how : How) (next : Thread) → Contains (resumed how h.stopped.thread) next → Follows i kept wd md t (outcome.Resumes how) → (d : Mode)
      → (Free i kept h.stopped.thread → Free i kept next) → Why i kept wd d h.stopped.thread of.handler → Next i kept wd d next
  again of h how next among f AsAnyone free w = free w
  again of h how next among f AsKernel free w = let d = h.held w in f s.number h.stopped.thread next d.0 d.1 among

  pub goes_again : (of : Slot) → Serves of → (how : How) → Follows i kept wd md t (outcome.Resumes how) → SlotOk i kept wd (resumed_by how of)
  goes_again of h Kill f = tt
  goes_again of h Retry f = record {
    came = came_like i kept wd of (record of { state = Running }) refl h.stopped.came;
    mode = h.stopped.mode;
    thread = h.stopped.thread;
    next = again of h Retry h.stopped.thread (0, omega arith, refl) f h.stopped.mode (λ x. x) h.stopped.why;
    matches = match_state i kept wd h.stopped.mode h.stopped.thread of Running h.stopped.matches;
  }
  goes_again of h Skip f = record {
    came = came_like i kept wd of (record of { state = Running; ip = advanced of.ip; past = of.past || runs_past of.ip }) refl h.stopped.came;
    mode = h.stopped.mode;
    thread = on_after h.stopped.thread;
    next = again of h Skip (on_after h.stopped.thread) (0, omega arith, refl) f h.stopped.mode after h.stopped.why;
    matches =
        match_at i kept wd h.stopped.mode u of (advanced u.ip) (advanced of.ip) (u.past || runs_past u.ip) (of.past || runs_past of.ip) of.turns Running mu (ap advanced mu.ip)
        (ap (λ b. b || runs_past u.ip) mu.past ∙ ap (λ (p : Pointer). of.past || runs_past p) mu.ip)
        (clean_below i (advanced of.ip) of.ip (advanced_below of.ip) mu.clean)
        (has_below i kept wd (party h.stopped.mode u.origin of.group) h.stopped.mode (Exactly of.ip) (Exactly (advanced of.ip)) of.ip (advanced of.ip) (λ e. e) (advanced_below of.ip) mu.mine);
  }
    where
      u : Thread
      u = h.stopped.thread

      mu : Match i kept wd h.stopped.mode h.stopped.thread of
      mu = h.stopped.matches

      after : Free i kept h.stopped.thread → Free i kept (on_after h.stopped.thread)
      after free = record {
        outside = outside_within kept (advanced h.stopped.thread.ip) h.stopped.thread.ip
            (below_within (advanced h.stopped.thread.ip) h.stopped.thread.ip (advanced_below h.stopped.thread.ip)) free.outside;
        forms = free.forms;
        fast = free.fast;
      }

  pub resume_ok : (x : Instr) (how : How) (n : ℕ) → Alls (kernel.fault t x ∷ outcome.Goes (stepped t) ∷ outcome.Resumes how ∷ []) → Eff x (resumes s how (served s.number (slot_at core n)))
  unfolding plain slot_after
  resume_ok x how n all =
      serve_ok x n (resumes s how) (λ c. all.0)
      (λ of h. record { own = steps_on i kept wd md core m k s t a all.1.0; cell = tt; pages = refl; queue = tt; other = goes_again of h how all.1.1.0 })

  -- a register that is read

  pub read_ok : (x : Instr) (rd r n : ℕ) → Ready s rd → Alls (kernel.fault t x ∷ kernel.sets t rd Any ∷ outcome.ReadsServed rd r (stepped t) ∷ [])
      → Eff x (reads_of core.split s rd r (served s.number (slot_at core n)))
  unfolding kernel.sets
  read_ok x rd r n hd all = serve_ok x n (reads_of core.split s rd r) (λ c. all.0) (λ of h. by of h (core.split && is_empty of r) refl)
    where
      -- what is read is the reader's
      read : (of : Slot) (h : Serves of) (q : Pointer) → Mine i kept wd (party h.stopped.mode h.stopped.thread.origin of.group) q → Mine i kept wd (party md t.origin s.group) q
      read of h q mine =
          read_mine i kept wd s of a.came h.stopped.came h.handled md t.origin h.stopped.mode h.stopped.thread.origin q rd r (stepped t) h.server h.stopped.matches.origin (held_by of h) all.1.1.0.0 mine

      got : (of : Slot) (h : Serves of) (d : Mode) (u : Thread) (w : Word) → Fits i kept (Has i kept wd (party d u.origin of.group) d) (form_in u r) w → Why i kept wd d u of.handler
          → ((q : Pointer) → Mine i kept wd (party d u.origin of.group) q → Mine i kept wd (party md t.origin s.group) q)
          → (HeldFor i kept wd u of.handler → (t.origin ≡ OfSlot s.number) × Derived i kept (HasFaulted s.number u) × (is_kernel i kept s.number ≡ true))
          → Eff x (sets s rd w)
      got of h AsAnyone u w fits free mine held =
          sets_ok i kept wd md core m k s t a x rd Any w hd all.1.0
          (public_fits i kept (Has i kept wd (party AsAnyone u.origin of.group) AsAnyone) (Held i kept wd md t s) (form_in u r) w (free_form i kept u free r)
          (each_pointer (Has i kept wd (party AsAnyone u.origin of.group) AsAnyone (form_in u r)) (Held i kept wd md t s Any) (λ q k o. mine q (k tt)) w fits.mine) fits)
      got of h AsKernel u w fits why mine held =
          let d = held why in
          sets_ok i kept wd md core m k s t a x rd (form_in u r) w hd (all.1.1.0.1 s.number u d.0 d.1)
          (fits_as i kept (Has i kept wd (party AsKernel u.origin of.group) AsKernel) (Held i kept wd md t s) (form_in u r) w
          (λ q k o. mine q (k (subst (λ (z : Mode). Owes z (form_in u r)) (as_kernel d.0 d.2 h.server) o))) fits)
        where
          as_kernel : t.origin ≡ OfSlot s.number → is_kernel i kept s.number ≡ true → Server i kept wd md t.origin s → md ≡ AsKernel
          as_kernel own e (of_kernel is from alone mode) = mode
          as_kernel own e (of_callers none callers) = absurd (cc)

      by : (of : Slot) (h : Serves of) (b : Bool) → (core.split && is_empty of r) ≡ b → Eff x (if b then Deliver (delivered of) else sets s rd (register of r))
      by of h true e = slot_delivered i kept wd of h.sounds h.whole
      by of h false e = got of h h.stopped.mode h.stopped.thread (register of r) (h.stopped.matches.registers r (h.ready r e)) h.stopped.why (read of h) h.held

  -- a register that is written

  pub write_ok : (x : Instr) (r n rb : ℕ) (w : Word) → r < 16 → Ready s rb → Fits i kept (Held i kept wd md t s) (form_in t rb) w
      → (l : Leak) → Alls (kernel.fault t x ∷ outcome.Goes (stepped t) ∷ outcome.HandsOut (form_in t rb) l ∷ outcome.WritesServed r (form_in t rb) ∷ [])
      → Eff x (writes_of core.split s r w (served s.number (slot_at core n)))
  unfolding plain slot_after
  write_ok x r n rb w lt hb fits l all = serve_ok x n (writes_of core.split s r w) (λ c. all.0) (λ of h. by of h (core.split && is_empty of r) refl)
    where
      public : Public i kept (form_in t rb)
      public = all.1.1.0.1

      -- what is written is the writer's
      mine : IfPointer w (Mine i kept wd (party md t.origin s.group))
      mine = public_mine i kept wd (party md t.origin s.group) md (form_in t rb) w public fits (hands_exact i kept wd md t s rb l a.matches a.next hb.small all.1.1.0.0)

      given : (of : Slot) (h : Serves of) (v : Word) → Holds i kept (form_in t rb) v → IfPointer v (Mine i kept wd (party md t.origin s.group))
          → IfPointer v (Held i kept wd h.stopped.mode h.stopped.thread of (form_in t rb))
      given of h (Int b) holds k = tt
      given of h (Ptr q) holds k = λ o.
          write_mine i kept wd s of a.came h.stopped.came h.handled md t.origin h.stopped.mode h.stopped.thread.origin q r (form_in t rb) h.server h.stopped.matches.origin (held_by of h)
          all.1.1.1.0.0 public holds k

      put : (of : Slot) (h : Serves of) → is_empty of r ≡ false → StoppedOk i kept wd (record of { regs = slice_set of.regs r w })
      put of h free = record {
        came = came_like i kept wd of (record of { regs = slice_set of.regs r w }) refl h.stopped.came;
        mode = h.stopped.mode;
        thread = with_form h.stopped.thread r (form_in t rb);
        why = whys h.stopped.mode h.stopped.why;
        matches = match_write i kept wd h.stopped.mode h.stopped.thread of r (form_in t rb) w h.stopped.matches h.sounds lt free
            (record { holds = fits.holds; clean = fits.clean; mine = given of h w fits.holds mine });
      }
        where
          whys : (d : Mode) → Why i kept wd d h.stopped.thread of.handler → Why i kept wd d (with_form h.stopped.thread r (form_in t rb)) of.handler
          whys AsAnyone f = free_with i kept wd h.stopped.thread r (form_in t rb) f public
          whys AsKernel held =
              let d = h.held held in
              record { handler = s.number; is = h.handled; kernel = d.2; derived = all.1.1.1.0.1 s.number h.stopped.thread d.0 d.1 }

      by : (of : Slot) (h : Serves of) (b : Bool) → (core.split && is_empty of r) ≡ b
          → Eff x (if b then Deliver (delivered of) else Do (record (plain s) { other = Some (record of { regs = slice_set of.regs r w }) }))
      by of h true e = slot_delivered i kept wd of h.sounds h.whole
      by of h false e = record {
        own = steps_on i kept wd md core m k s t a all.1.0;
        cell = tt;
        pages = refl;
        queue = tt;
        other = taken_as i kept wd
            (record of { regs = slice_set of.regs r w }) of.state h.taken (put of h (h.ready r e));
      }
