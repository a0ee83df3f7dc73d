-- What is derived of threads that are taken up, and that derived threads are.
use Rattle.std.proofs.Common.{◌≡◌, ℕ, Bool, true, false, ◌&&◌, if◌then◌else◌, List, [], ◌∷◌, ◌++◌, refl}
use Rattle.std.specs.{Prelude.Contains, List.{AllByRecursion, flat_map, range_with_len}}
use Rattle.mm_word.specs.declared.word.Word.{Word}
use Rattle.mm_model.{specs.Image.Image, proofs.CoreRows.{each_contained}}
use Rattle.mm_kernel.specs.Segments.{Segment, is_kept, is_fixed, is_door, meets}
use Rattle.mm_kernel.specs.declared.fact.{Leak.{Leak, TheVariants.{Loose, FaultPointer, Fault, Jump, Cell as InCell}}}
use Rattle.mm_kernel.specs.declared.{form.Form.{Form}, outcome.Outcome.Outcome}
use Rattle.mm_kernel.specs.declared.form.Form.TheVariants.{Number, Pointer as Exactly, Integer, Open, Any, Inside}
use Rattle.mm_kernel.specs.declared.thread.Handler.{Handler, TheVariants.{Nobody, Kernel, Caller}}
use Rattle.mm_kernel.specs.declared.thread.{Origin.{Origin, TheVariants.{Door, Slot as OfSlot}}, Thread.Thread}
use Rattle.mm_kernel.specs.{Forms.{exactly, is_open_form}, Turns.{outcomes, with_event}}
use Rattle.mm_kernel.specs.Threads.{form_in, with_form, handler_of, own_thread, thread_through, is_free, is_kernel, serves_some}
use Rattle.mm_kernel.specs.Facts.{Fact, let_out, hand_out, loose, take_up}
use Rattle.mm_kernel.specs.Facts.Fact.{HasThread, HasForm, HasDoor, HasLeak}
use Rattle.mm_kernel.specs.Derived.{Derived, cell_facts, first_form, outcome_facts, fault_facts, shown, register_shown, register_left}
use Rattle.mm_kernel.specs.Derived.Derived.{begins_in_cell as by_cell, begins_in_slot as by_slot, reaches as by_reach}
use Rattle.mm_kernel.specs.Derived.Derived.{enters as by_door, turns as by_turn, loads as by_load, stores as by_store}
use Rattle.mm_kernel.specs.Derived.Derived.{takes as by_event, resumes as by_resume, reads_served as by_read}
use Rattle.mm_kernel.specs.Derived.Derived.{writes_served as by_write}
use Rattle.mm_kernel.proofs.{Owns.Up, Ups.{each_from, each_join}}
use Rattle.mm_confine.specs.Taken.{TakenUp}
use Rattle.mm_confine.specs.Taken.TakenUp.{begins, enters, goes, loads, takes, resumes, reads_served}
use Rattle.mm_kernel.specs.declared.outcome.Outcome.TheVariants as outcome

module _ (i : Image) (kept : List Segment) where
  -- 1. What follows from a thread that is taken up is derived.

  pub taken_derived : {t : Thread} → TakenUp i kept t → Up i kept t
  taken_derived (begins s c) = each_from (Derived i kept) (take_up i kept (own_thread i kept s)) (λ fact k. by_slot s c k)
  taken_derived (enters door ip s d e c) =
      each_from (Derived i kept) (take_up i kept (thread_through door ip (handler_of i kept s.handler))) (λ fact k. by_door door ip s d e c k)
  taken_derived (goes {next = next} t d c) = each_from (Derived i kept) (take_up i kept next) (λ fact k. by_turn t (outcome.Goes next) d c k)
  taken_derived (loads t next part reg w f d c held inside) =
      each_from (Derived i kept) (take_up i kept (with_form next reg f)) (λ fact k. by_load t next part reg w f d c held inside k)
  taken_derived (takes t next h reg e d from c held) =
      each_from (Derived i kept) (take_up i kept (with_event next reg e.ip e.address e.value)) (λ fact k. by_event t next h reg e d from c held k)
  taken_derived (resumes {next = next} t u h how d from c held among) =
      each_from (Derived i kept) (take_up i kept next) (λ fact k. by_resume t u next h how d from c held among k)
  taken_derived (reads_served t u next h reg from d own c held) =
      each_from (Derived i kept) (take_up i kept (with_form next reg (form_in u from))) (λ fact k. by_read t u next h reg from d own c held k)

  -- 2. A derived thread was taken up.

  -- and it is not free
  abbrev FromTaken : Fact → Type 0
  FromTaken (HasThread t) = TakenUp i kept t × (is_free kept t ≡ false)
  FromTaken _ = Unit {0}

  lets_none : (f : Form) → AllByRecursion FromTaken (let_out kept f)
  unfolding let_out
  lets_none (Exactly p) = by (is_door kept p)
    where
      by : (b : Bool) → AllByRecursion FromTaken (if b then HasDoor p ∷ [] else [])
      by true = (tt, tt)
      by false = tt
  lets_none (Number n) = tt
  lets_none Integer = tt
  lets_none (Open perm) = tt
  lets_none Any = tt
  lets_none (Inside p) = tt

  hands_none : (f : Form) (leak : Leak) → AllByRecursion FromTaken (hand_out kept f leak)
  unfolding hand_out
  hands_none f leak = by (is_open_form kept f)
    where
      by : (b : Bool) → AllByRecursion FromTaken (if b then let_out kept f else HasLeak leak ∷ [])
      by true = lets_none f
      by false = (tt, tt)

  loose_none : (o : Origin) → AllByRecursion FromTaken (loose i kept o)
  loose_none (Door d) = tt
  loose_none (OfSlot n) = by (is_kernel i kept n && serves_some i n)
    where
      by : (b : Bool) → AllByRecursion FromTaken (if b then HasLeak (Loose n) ∷ [] else [])
      by true = (tt, tt)
      by false = tt

  lets_all : (fs : List Form) → AllByRecursion FromTaken (flat_map (let_out kept) fs)
  lets_all [] = tt
  lets_all (f ∷ fs) = each_join FromTaken (let_out kept f) (flat_map (let_out kept) fs) (lets_none f) (lets_all fs)

  takes_up : (t : Thread) → TakenUp i kept t → AllByRecursion FromTaken (take_up i kept t)
  unfolding take_up
  takes_up t h = by (is_free kept t) refl
    where
      by : (b : Bool) → is_free kept t ≡ b → AllByRecursion FromTaken (if b then flat_map (let_out kept) t.forms ++ loose i kept t.origin else HasThread t ∷ [])
      by true e = each_join FromTaken (flat_map (let_out kept) t.forms) (loose i kept t.origin) (lets_all t.forms) (loose_none t.origin)
      by false e = ((h, e), tt)

  each_number : (P : Fact → Type 0) (f : ℕ → List Fact) → ((r : ℕ) → AllByRecursion P (f r)) → (rs : List ℕ) → AllByRecursion P (flat_map f rs)
  each_number P f h [] = tt
  each_number P f h (r ∷ rs) = each_join P (f r) (flat_map f rs) (h r) (each_number P f h rs)

  shown_none : (t : Thread) → AllByRecursion FromTaken (shown kept t)
  shown_none t =
      each_join FromTaken (if meets kept t.ip then HasLeak (FaultPointer t.ip.addr) ∷ [] else []) (flat_map (register_shown kept t) (range_with_len 0 16)) (first (meets kept t.ip))
      (each_number FromTaken (register_shown kept t) (λ r. one r (is_open_form kept (form_in t r))) (range_with_len 0 16))
    where
      first : (b : Bool) → AllByRecursion FromTaken (if b then HasLeak (FaultPointer t.ip.addr) ∷ [] else [])
      first true = (tt, tt)
      first false = tt

      one : (r : ℕ) (b : Bool) → AllByRecursion FromTaken (if b then [] else HasLeak (Fault t.ip.addr r (form_in t r)) ∷ [])
      one r true = tt
      one r false = (tt, tt)

  faults_none : (t : Thread) (h : Handler) (a v : Form) → AllByRecursion FromTaken (fault_facts kept t h a v)
  faults_none t Nobody a v = tt
  faults_none t (Kernel n) a v = (tt, (tt, tt))
  faults_none t Caller a v = shown_none t

  outcome_from : (t : Thread) (o : Outcome) → Derived i kept (HasThread t) → Contains (outcomes i kept t) o → AllByRecursion FromTaken (outcome_facts i kept t o)
  outcome_from t (outcome.Goes next) d c = takes_up next (goes t d c)
  outcome_from t (outcome.Loads part reg next) d c = tt
  outcome_from t (outcome.Stores part f) d c = tt
  outcome_from t (outcome.HandsOut form leak) d c = hands_none form leak
  outcome_from t (outcome.Leaves linked) d c =
      each_join FromTaken (flat_map (register_left kept linked) (range_with_len 0 16)) (loose i kept linked.origin)
      (each_number FromTaken (register_left kept linked) (λ r. hands_none (form_in linked r) (Jump linked.ip.addr r (form_in linked r))) (range_with_len 0 16)) (loose_none linked.origin)
  outcome_from t (outcome.Leaks leak) d c = (tt, tt)
  outcome_from t (outcome.Faults address value) d c = faults_none t t.handler address value
  outcome_from t (outcome.TakesEvent reg next) d c = tt
  outcome_from t (outcome.Resumes how) d c = tt
  outcome_from t (outcome.ReadsServed reg from next) d c = tt
  outcome_from t (outcome.WritesServed reg f) d c = tt

  cell_from : (w : ℕ) (word : Word) → AllByRecursion FromTaken (cell_facts i kept w word)
  cell_from w word = by (is_kept kept w)
    where
      by : (b : Bool) → AllByRecursion FromTaken (if b then HasForm w (first_form (is_fixed i w) word) ∷ [] else hand_out kept (exactly word) (InCell w (exactly word)))
      by true = (tt, tt)
      by false = hands_none (exactly word) (InCell w (exactly word))

  derived_from : {fact : Fact} → Derived i kept fact → FromTaken fact
  derived_from (by_cell {fact = f} w c at k) = each_contained FromTaken (cell_facts i kept w c.word) f (cell_from w c.word) k
  derived_from (by_slot {fact = f} s among k) = each_contained FromTaken (take_up i kept (own_thread i kept s)) f (takes_up (own_thread i kept s) (begins s among)) k
  derived_from (by_reach p c e) = tt
  derived_from (by_door {fact = f} door ip s d e among k) =
      let t : Thread = thread_through door ip (handler_of i kept s.handler) in
      each_contained FromTaken (take_up i kept t) f (takes_up t (enters door ip s d e among)) k
  derived_from (by_turn {fact = f} t o d c k) = each_contained FromTaken (outcome_facts i kept t o) f (outcome_from t o d c) k
  derived_from (by_load {fact = f} t next part reg w g d c held inside k) =
      each_contained FromTaken (take_up i kept (with_form next reg g)) f (takes_up (with_form next reg g) (loads t next part reg w g d c held inside)) k
  derived_from (by_store t part w c g d among at is inside) = tt
  derived_from (by_event {fact = f} t next h reg e d from c held k) =
      each_contained FromTaken (take_up i kept (with_event next reg e.ip e.address e.value)) f
      (takes_up (with_event next reg e.ip e.address e.value) (takes t next h reg e d from c held)) k
  derived_from (by_resume {fact = f} t u next h how d from c held among k) =
      each_contained FromTaken (take_up i kept next) f (takes_up next (resumes t u h how d from c held among)) k
  derived_from (by_read {fact = f} t u next h reg from d own c held k) =
      each_contained FromTaken (take_up i kept (with_form next reg (form_in u from))) f
      (takes_up (with_form next reg (form_in u from)) (reads_served t u next h reg from d own c held)) k
  derived_from (by_write t u h reg g d from c held) = tt

  pub derived_taken : (t : Thread) → Derived i kept (HasThread t) → TakenUp i kept t
  derived_taken t d = (derived_from d).0

  pub derived_bound : (t : Thread) → Derived i kept (HasThread t) → is_free kept t ≡ false
  derived_bound t d = (derived_from d).1
