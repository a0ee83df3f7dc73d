-- Threads that are taken up have sixteen registers, and a form that is derived is one of a kept word of the image.
use Rattle.std.proofs.Common.{◌≡◌, ℕ, Bool, true, false, not, ◌&&◌, ◌==◌, if◌then◌else◌, List, [], ◌∷◌, ◌++◌, map, length, Some}
use Rattle.std.proofs.Common.{refl, sym, ap, ◌∙◌, subst, eq-eqb}
use Rattle.std.proofs.lemmas.Bool.{and_from, not_from_false}
use Rattle.std.proofs.lemmas.List.{length-map, length-replicate}
use Rattle.std.specs.{Prelude.Contains, List.{AllByRecursion, flat_map, list_all, range_with_len}}
use Rattle.mm_word.specs.Pointer.{Pointer}
use Rattle.mm_word.specs.declared.word.{Word.{Word, TheVariants.{Int, Ptr}}, Cell.Cell}
use Rattle.mm_isa.specs.declared.instr.How.{How, TheVariants.{Retry, Skip, Kill}}
use Rattle.mm_model.specs.{Memory.cell_at, Slot.Slot, Image.{Image, slot_limit}, Turn.is_running}
use Rattle.mm_model.{specs.Spelling.{IsImage, IsFresh}, proofs.CoreRows.each_contained}
use Rattle.mm_kernel.specs.Segments.{Segment, is_kept, is_fixed, is_door, is_open, meets, running_slots}
use Rattle.mm_kernel.specs.declared.fact.{Leak.{Leak, TheVariants.{Loose, FaultPointer, Fault, Jump, Cell as InCell}}}
use Rattle.mm_kernel.specs.declared.form.Form.{Form}
use Rattle.mm_kernel.specs.declared.form.Form.TheVariants.{Number, Pointer as Exactly, Integer, Open, Any, Inside}
use Rattle.mm_kernel.specs.declared.thread.Handler.{Handler, TheVariants.{Nobody, Kernel, Caller}}
use Rattle.mm_kernel.specs.declared.thread.Origin.{Origin, TheVariants.{Door, Slot as OfSlot}}
use Rattle.mm_kernel.specs.declared.{outcome.Outcome.Outcome, thread.Thread.Thread}
use Rattle.mm_kernel.specs.{Forms.{exactly, is_open_form}, Turns.{outcomes, with_event}}
use Rattle.mm_kernel.specs.Threads.{form_in, with_form, own_thread, thread_through, handler_of, is_free, is_kernel, is_kernel_slot}
use Rattle.mm_kernel.specs.Threads.{has_open_words, serves_some}
use Rattle.mm_kernel.specs.Facts.{Fact, let_out, hand_out, loose, take_up}
use Rattle.mm_kernel.specs.Facts.Fact.{HasThread, HasForm, HasDoor, HasFaulted, HasLeak}
use Rattle.mm_kernel.specs.Derived.{Derived, cell_facts, first_form, outcome_facts, fault_facts, shown, register_shown}
use Rattle.mm_kernel.specs.Derived.{register_left, on_after, resumed}
use Rattle.mm_kernel.specs.Derived.Derived.{begins_in_cell, begins_in_slot, reaches, enters, turns, loads, stores, takes}
use Rattle.mm_kernel.specs.Derived.Derived.{resumes, reads_served, writes_served}
use Rattle.mm_kernel.proofs.{Ups.{each_join}, Serves.any_contained}
use Rattle.mm_span.proofs.Members.{filter_in}
use Rattle.mm_confine.specs.Taken.{TakenUp}
use Rattle.mm_confine.specs.Taken.TakenUp.{begins, enters as entering, goes, loads as loading, takes as taking}
use Rattle.mm_confine.specs.Taken.TakenUp.{resumes as resuming, reads_served as reading}
use Rattle.mm_hold.specs.Conducts.{IsHeld}
use Rattle.mm_hold.proofs.Like.{Like, AsLong, then_long, with_long, event_long, outcome_like}
use Rattle.mm_kernel.specs.declared.outcome.Outcome.TheVariants as outcome

abbrev pub Long : Thread → Type 0
Long t = length t.forms ≡ 16

module _ (i : Image) (kept : List Segment) where
  open_exactly : (w : Word) → is_open_form kept (exactly w) ≡ is_open kept w
  unfolding is_open_form is_open
  open_exactly (Int n) = refl
  open_exactly (Ptr p) = refl

  exactly_open : (ws : List Word) → list_all (is_open_form kept) (map exactly ws) ≡ list_all (is_open kept) ws
  exactly_open [] = refl
  exactly_open (w ∷ ws) = ap (λ b. b && list_all (is_open_form kept) (map exactly ws)) (open_exactly w) ∙ ap (λ b. is_open kept w && b) (exactly_open ws)

  -- the origin is a door, or a slot of the kernel
  abbrev FromKernel : Origin → Type 0
  FromKernel (Door d) = Unit {0}
  FromKernel (OfSlot n) = is_kernel i kept n ≡ true

  abbrev Whole : Thread → Type 0
  Whole t = FromKernel t.origin × Long t

  whole_as : (t u : Thread) → AsLong t u → Whole t → Whole u
  whole_as t u k h = (subst FromKernel (sym k.0) h.0, k.1 ∙ h.1)

  abbrev Fine : Fact → Type 0
  Fine (HasThread t) = Whole t
  Fine (HasFaulted h t) = Whole t
  Fine (HasForm w f) = IsHeld i kept w
  Fine _ = Unit {0}

  abbrev Fines : List Fact → Type 0
  Fines facts = AllByRecursion Fine facts

  -- 1. Facts that are no threads and no forms.

  lets : (f : Form) → Fines (let_out kept f)
  unfolding let_out
  lets (Exactly p) = by (is_door kept p)
    where
      by : (b : Bool) → Fines (if b then HasDoor p ∷ [] else [])
      by true = (tt, tt)
      by false = tt
  lets (Number n) = tt
  lets Integer = tt
  lets (Open perm) = tt
  lets Any = tt
  lets (Inside p) = tt

  hands : (f : Form) (leak : Leak) → Fines (hand_out kept f leak)
  unfolding hand_out
  hands f leak = by (is_open_form kept f)
    where
      by : (b : Bool) → Fines (if b then let_out kept f else HasLeak leak ∷ [])
      by true = lets f
      by false = (tt, tt)

  loosens : (o : Origin) → Fines (loose i kept o)
  loosens (Door d) = tt
  loosens (OfSlot n) = by (is_kernel i kept n && serves_some i n)
    where
      by : (b : Bool) → Fines (if b then HasLeak (Loose n) ∷ [] else [])
      by true = (tt, tt)
      by false = tt

  all_lets : (fs : List Form) → Fines (flat_map (let_out kept) fs)
  all_lets [] = tt
  all_lets (f ∷ fs) = each_join Fine (let_out kept f) (flat_map (let_out kept) fs) (lets f) (all_lets fs)

  by_numbers : (f : ℕ → List Fact) → ((r : ℕ) → Fines (f r)) → (rs : List ℕ) → Fines (flat_map f rs)
  by_numbers f h [] = tt
  by_numbers f h (r ∷ rs) = each_join Fine (f r) (flat_map f rs) (h r) (by_numbers f h rs)

  shows : (t : Thread) → Fines (shown kept t)
  shows t =
      each_join Fine (if meets kept t.ip then HasLeak (FaultPointer t.ip.addr) ∷ [] else []) (flat_map (register_shown kept t) (range_with_len 0 16)) (first (meets kept t.ip))
      (by_numbers (register_shown kept t) (λ r. one r (is_open_form kept (form_in t r))) (range_with_len 0 16))
    where
      first : (b : Bool) → Fines (if b then HasLeak (FaultPointer t.ip.addr) ∷ [] else [])
      first true = (tt, tt)
      first false = tt

      one : (r : ℕ) (b : Bool) → Fines (if b then [] else HasLeak (Fault t.ip.addr r (form_in t r)) ∷ [])
      one r true = tt
      one r false = (tt, tt)

  -- 2. Threads.

  -- a thread that is free need not be of the kernel
  takes_up : (t : Thread) → (is_free kept t ≡ false → Whole t) → Fines (take_up i kept t)
  unfolding take_up
  takes_up t h = by (is_free kept t) refl
    where
      by : (b : Bool) → is_free kept t ≡ b → Fines (if b then flat_map (let_out kept) t.forms ++ loose i kept t.origin else HasThread t ∷ [])
      by true e = each_join Fine (flat_map (let_out kept) t.forms) (loose i kept t.origin) (all_lets t.forms) (loosens t.origin)
      by false e = (h e, tt)

  faults : (t : Thread) → Whole t → (h : Handler) (a v : Form) → Fines (fault_facts kept t h a v)
  faults t long Nobody a v = tt
  faults t long (Kernel n) a v = (tt, (long, tt))
  faults t long Caller a v = shows t

  outcome_fine : (t : Thread) → Whole t → (o : Outcome) → Like (outcomes i kept t) t o → Fines (outcome_facts i kept t o)
  outcome_fine t h (outcome.Goes next) k = takes_up next (λ e. whole_as t next k h)
  outcome_fine t h (outcome.Loads part reg next) k = tt
  outcome_fine t h (outcome.Stores part f) k = tt
  outcome_fine t h (outcome.HandsOut form leak) k = hands form leak
  outcome_fine t h (outcome.Leaves linked) k =
      each_join Fine (flat_map (register_left kept linked) (range_with_len 0 16)) (loose i kept linked.origin)
      (by_numbers (register_left kept linked) (λ r. hands (form_in linked r) (Jump linked.ip.addr r (form_in linked r))) (range_with_len 0 16)) (loosens linked.origin)
  outcome_fine t h (outcome.Leaks leak) k = (tt, tt)
  outcome_fine t h (outcome.Faults address value) k = faults t h t.handler address value
  outcome_fine t h (outcome.TakesEvent reg next) k = tt
  outcome_fine t h (outcome.Resumes how) k = tt
  outcome_fine t h (outcome.ReadsServed reg from next) k = tt
  outcome_fine t h (outcome.WritesServed reg f) k = tt

  cell_fine : (w : ℕ) (c : Cell) → cell_at i.memory w ≡ Some c → Fines (cell_facts i kept w c.word)
  cell_fine w c at = by (is_kept kept w) refl
    where
      by : (b : Bool) → is_kept kept w ≡ b
          → Fines (if b then HasForm w (first_form (is_fixed i w) c.word) ∷ [] else hand_out kept (exactly c.word) (InCell w (exactly c.word)))
      by true e = (record { cell = c; at = at; of_kept = e }, tt)
      by false e = hands (exactly c.word) (InCell w (exactly c.word))

  resumed_whole : (how : How) (u next : Thread) → Whole u → Contains (resumed how u) next → Whole next
  resumed_whole Retry u next h c = each_contained Whole (u ∷ []) next (h, tt) c
  resumed_whole Skip u next h c = each_contained Whole (on_after u ∷ []) next (h, tt) c
  resumed_whole Kill u next h c = each_contained Whole [] next tt c

  through_long : (door ip : Pointer) (h : Handler) → Long (thread_through door ip h)
  through_long door ip h = length-replicate 16 Any

  module _ (img : IsImage i) where
    own_long : (s : Slot) → Contains (running_slots i) s → Long (own_thread i kept s)
    own_long s c =
        let k = filter_in (λ (x : Slot). is_running x.state) i.slots s c in
        let f : IsFresh (slot_limit i.version) i.slots s = each_contained (IsFresh (slot_limit i.version) i.slots) i.slots s img.fresh k.0 in
        length-map s.regs exactly ∙ f.registers

    -- a slot's own thread that is not free is one of the kernel
    own_kernel : (s : Slot) → Contains (running_slots i) s → is_free kept (own_thread i kept s) ≡ false → is_kernel i kept s.number ≡ true
    unfolding is_kernel is_free
    own_kernel s c e =
        let k = filter_in (λ (x : Slot). is_running x.state) i.slots s c in
        let words : has_open_words kept s ≡ false = sym (ap (λ b. not (meets kept s.ip) && b) (exactly_open s.regs)) ∙ e in
        any_contained (λ (x : Slot). (x.number == s.number) && is_kernel_slot kept x) i.slots s k.0
        (and_from (s.number == s.number) (is_kernel_slot kept s) (eq-eqb s.number s.number refl)
        (and_from (is_running s.state) (not (has_open_words kept s)) k.1 (not_from_false (has_open_words kept s) words)))

    own_whole : (s : Slot) → Contains (running_slots i) s → is_free kept (own_thread i kept s) ≡ false → Whole (own_thread i kept s)
    own_whole s c e = (own_kernel s c e, own_long s c)

    facts_fine : {fact : Fact} → Derived i kept fact → Fine fact
    facts_fine (begins_in_cell {fact = f} w c at k) = each_contained Fine (cell_facts i kept w c.word) f (cell_fine w c at) k
    facts_fine (begins_in_slot {fact = f} s among k) = each_contained Fine (take_up i kept (own_thread i kept s)) f (takes_up (own_thread i kept s) (own_whole s among)) k
    facts_fine (reaches p c e) = tt
    facts_fine (enters {fact = f} door ip s d e among k) =
        let h = handler_of i kept s.handler in
        each_contained Fine (take_up i kept (thread_through door ip h)) f (takes_up (thread_through door ip h) (λ none. (tt, through_long door ip h))) k
    facts_fine (turns {fact = f} t o d c k) =
        each_contained Fine (outcome_facts i kept t o) f (outcome_fine t (facts_fine d) o (outcome_like i kept t o c)) k
    facts_fine (loads {fact = f} t next part reg w g d c held inside k) =
        let whole : Whole t = facts_fine d in
        let like = then_long t next (with_form next reg g) (outcome_like i kept t (outcome.Loads part reg next) c) (with_long next reg g) in
        each_contained Fine (take_up i kept (with_form next reg g)) f (takes_up (with_form next reg g) (λ none. whole_as t (with_form next reg g) like whole)) k
    facts_fine (stores t part w c g d among at is inside) = record { cell = c; at = at; of_kept = is }
    facts_fine (takes {fact = f} t next h reg e d from c held k) =
        let whole : Whole t = facts_fine d in
        let u = with_event next reg e.ip e.address e.value in
        let like = then_long t next u (outcome_like i kept t (outcome.TakesEvent reg next) c) (event_long next reg e.ip e.address e.value) in
        each_contained Fine (take_up i kept u) f (takes_up u (λ none. whole_as t u like whole)) k
    facts_fine (resumes {fact = f} t u next h how d from c held among k) =
        each_contained Fine (take_up i kept next) f (takes_up next (λ none. resumed_whole how u next (facts_fine held) among)) k
    facts_fine (reads_served {fact = f} t u next h reg from d own c held k) =
        let whole : Whole t = facts_fine d in
        let v = with_form next reg (form_in u from) in
        let like = then_long t next v (outcome_like i kept t (outcome.ReadsServed reg from next) c) (with_long next reg (form_in u from)) in
        each_contained Fine (take_up i kept v) f (takes_up v (λ none. whole_as t v like whole)) k
    facts_fine (writes_served t u h reg g d from c held) = whole_as u (with_form u reg g) (with_long u reg g) (facts_fine held)

    -- 3. What is asked of them.

    pub thread_long : (t : Thread) → Derived i kept (HasThread t) → Long t
    thread_long t d = let whole : Whole t = facts_fine d in whole.1

    -- the threads of a slot are those of a slot of the kernel
    pub thread_kernel : (t : Thread) (n : ℕ) → Derived i kept (HasThread t) → t.origin ≡ OfSlot n → is_kernel i kept n ≡ true
    thread_kernel t n d e = let whole : Whole t = facts_fine d in subst FromKernel e whole.0

    pub form_held : (w : ℕ) (f : Form) → Derived i kept (HasForm w f) → IsHeld i kept w
    form_held w f d = facts_fine d

    pub taken_long : (t : Thread) → TakenUp i kept t → Long t
    taken_long t (begins s c) = own_long s c
    taken_long t (entering door ip s d e c) = through_long door ip (handler_of i kept s.handler)
    taken_long t (goes u d c) = (outcome_like i kept u (outcome.Goes t) c).1 ∙ thread_long u d
    taken_long t (loading u next part reg w f d c held inside) =
        (with_long next reg f).1 ∙ (outcome_like i kept u (outcome.Loads part reg next) c).1 ∙ thread_long u d
    taken_long t (taking u next h reg e d from c held) =
        (event_long next reg e.ip e.address e.value).1 ∙ (outcome_like i kept u (outcome.TakesEvent reg next) c).1 ∙ thread_long u d
    taken_long t (resuming u served h how d from c held among) =
        let whole : Whole served = facts_fine held in
        (resumed_whole how served t whole among).1
    taken_long t (reading u served next h reg from d own c held) =
        (with_long next reg (form_in served from)).1 ∙ (outcome_like i kept u (outcome.ReadsServed reg from next) c).1 ∙ thread_long u d
