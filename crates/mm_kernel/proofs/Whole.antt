-- Each pointer of a derived form that meets the kept segments is inside, where no live pointer of the image reaches across.
use Rattle.std.proofs.Common.{◌≡◌, ℕ, ◌+◌, ◌/◌, ◌^◌, Bool, true, false, ◌&&◌, if◌then◌else◌, ℤ, pos, negsuc, List, []}
use Rattle.std.proofs.Common.{◌∷◌, ◌++◌, Option, Some, None, Ok, Err, refl, sym, ap, ◌∙◌, subst, arith, eqb-true}
use Rattle.std.proofs.lemmas.Bool.{and_parts}
use Rattle.std.specs.{Prelude.option_map, List.{AllByRecursion, flat_map, range_with_len}}
use Rattle.mm_word.specs.declared.perm.Perm.{Perm, TheVariants.{Ro, Rw, Xu, Xp, Eu, Ep, Key}}
use Rattle.mm_word.specs.{declared.word.Word.{Word, TheVariants.{Int, Ptr}}, Perm.{can_move, can_become, execute_form}}
use Rattle.mm_word.specs.Pointer.{Pointer, in_segment, moved_to, next_result, enter_result}
use Rattle.mm_model.specs.{Effect.{advanced, moved_on}, Image.Image}
use Rattle.mm_model.proofs.{CoreRows.{each_map, each_set}, EffectWords.each_or, EffectSteps.moved_perm}
use Rattle.mm_kernel.specs.Segments.{Segment, is_inside, meets, pointers_in, runs_privileged, is_door}
use Rattle.mm_kernel.specs.declared.fact.Leak.{Leak, TheVariants.{Jump, FaultPointer, Fault, Loose}}
use Rattle.mm_kernel.specs.declared.form.Form.{Form}
use Rattle.mm_kernel.specs.declared.form.Form.TheVariants.{Number, Pointer as Exactly, Integer, Open, Any, Inside}
use Rattle.mm_kernel.specs.declared.outcome.Outcome.{Outcome}
use Rattle.mm_kernel.specs.declared.thread.Handler.{Handler, TheVariants.{Nobody, Kernel, Caller}}
use Rattle.mm_kernel.specs.declared.thread.{Origin.{Origin, TheVariants.{Door, Slot as OfSlot}}, Thread.Thread}
use Rattle.mm_kernel.specs.Forms.{exactly, is_open_form, zero_form, stored_form}
use Rattle.mm_kernel.specs.Threads.{form_in, with_form, stepped, is_free, is_kernel, serves_some}
use Rattle.mm_kernel.specs.Facts.{Fact, let_out, hand_out, loose, take_up}
use Rattle.mm_kernel.specs.Facts.Fact.{HasThread, HasForm, HasDoor, HasEvent, HasFaulted, HasLeak}
use Rattle.mm_kernel.specs.Turns.{with_event}
use Rattle.mm_kernel.specs.Derived.{has_segment, register_shown, shown, fault_facts, register_left, outcome_facts}
use Rattle.mm_kernel.proofs.{Segs.{Within, meets_within, inside_within}, Values.{Moved, moved_within}}
use Rattle.mm_kernel.proofs.{Ups.{each_from, each_join, each_flat}, Rows.WholeForm}
use Rattle.mm_word.specs.declared.cause.Cause.TheVariants as cause
use Rattle.mm_kernel.specs.declared.outcome.Outcome.TheVariants as outcome

-- 1. Pointers.

pub record Sane (kept : List Segment) (p : Pointer) : Type 0 where
  pub user : runs_privileged p.perm ≡ false
  pub whole : has_segment p.perm ≡ true → meets kept p ≡ true → is_inside kept p ≡ true

pub become_user : (p q : Perm) → runs_privileged p ≡ false → can_become p q ≡ true → (runs_privileged q ≡ false) × (has_segment p ≡ true)
become_user Xp q u e = cc
become_user Ep q u e = cc
become_user Eu q u e = cc
become_user Key q u e = cc
become_user Ro Key u e = (refl, refl)
become_user Rw Ro u e = (refl, refl)
become_user Rw Key u e = (refl, refl)
become_user Xu Ro u e = (refl, refl)
become_user Xu Eu u e = (refl, refl)
become_user Xu Key u e = (refl, refl)
become_user Ro Ro u e = cc
become_user Ro Rw u e = cc
become_user Ro Xu u e = cc
become_user Ro Xp u e = cc
become_user Ro Eu u e = cc
become_user Ro Ep u e = cc
become_user Rw Rw u e = cc
become_user Rw Xu u e = cc
become_user Rw Xp u e = cc
become_user Rw Eu u e = cc
become_user Rw Ep u e = cc
become_user Xu Rw u e = cc
become_user Xu Xu u e = cc
become_user Xu Xp u e = cc
become_user Xu Ep u e = cc

pub moves_segment : (p : Perm) → runs_privileged p ≡ false → can_move p ≡ true → has_segment p ≡ true
moves_segment Ro u e = refl
moves_segment Rw u e = refl
moves_segment Xu u e = refl
moves_segment Xp u e = cc
moves_segment Eu u e = cc
moves_segment Ep u e = cc
moves_segment Key u e = cc

module _ (kept : List Segment) where
  pub sane_within : (q p : Pointer) → Within q p → q.perm ≡ p.perm → Sane kept p → Sane kept q
  sane_within q p w e h = record {
    user = ap runs_privileged e ∙ h.user;
    whole = λ seg m. inside_within kept q p w (h.whole (ap has_segment (sym e) ∙ seg) (meets_within kept q p w m));
  }

  pub sane_moved : (q p : Pointer) → Moved q p → Sane kept p → Sane kept q
  sane_moved q p m h = sane_within q p (moved_within q p m) m.perm h

  pub self_within : (p : Pointer) (to : Perm) → Within (record p { perm = to }) p
  self_within p to = record { shorter = omega arith; here = refl }

  pub sane_as : (p : Pointer) (to : Perm) → runs_privileged to ≡ false → has_segment p.perm ≡ true → Sane kept p → Sane kept (record p { perm = to })
  sane_as p to user seg h = record {
    user = user;
    whole = λ s m. inside_within kept (record p { perm = to }) p (self_within p to) (h.whole seg (meets_within kept (record p { perm = to }) p (self_within p to) m));
  }

  moved_to_within : (p q : Pointer) (z : ℤ) → moved_to p z ≡ Ok q → Within q p
  moved_to_within p q (pos n) e = by (in_segment p n) refl e
    where
      by : (b : Bool) → in_segment p n ≡ b → (if b then Ok (record p { addr = n }) else Err cause.Bounds) ≡ Ok q → Within q p
      by true at r = let same : record p { addr = n } ≡ q = cc in subst (λ (x : Pointer). Within x p) same (record { shorter = omega arith; here = eqb-true (n / 2 ^ p.log) (p.addr / 2 ^ p.log) at })
      by false at r = cc
  moved_to_within p q (negsuc n) e = cc

  next_within : (p q : Pointer) → next_result p ≡ Some q → Within q p × (q.perm ≡ p.perm)
  next_within p q e = by (can_move p.perm && in_segment p (p.addr + 8)) refl e
    where
      by : (b : Bool) → (can_move p.perm && in_segment p (p.addr + 8)) ≡ b → (if b then Some (record p { addr = p.addr + 8 }) else None) ≡ Some q → Within q p × (q.perm ≡ p.perm)
      by true at r =
          let same : record p { addr = p.addr + 8 } ≡ q = cc in
          let parts = and_parts (can_move p.perm) (in_segment p (p.addr + 8)) at in
          subst (λ (x : Pointer). Within x p × (x.perm ≡ p.perm)) same (record { shorter = omega arith; here = eqb-true ((p.addr + 8) / 2 ^ p.log) (p.addr / 2 ^ p.log) parts.1 }, refl)
      by false at r = cc

  pub sane_next : (p q : Pointer) → next_result p ≡ Some q → Sane kept p → Sane kept q
  sane_next p q e h = let w = next_within p q e in sane_within q p w.0 w.1 h

  pub sane_advanced : (p : Pointer) → Sane kept p → Sane kept (advanced p)
  unfolding advanced
  sane_advanced p h = by (next_result p) refl
    where
      by : (o : Option Pointer) → next_result p ≡ o → Sane kept (moved_on p o)
      by None e = h
      by (Some q) e = sane_next p q e h

  pub sane_distance : (p q : Pointer) (z : ℤ) → moved_to p z ≡ Ok q → Sane kept p → Sane kept q
  sane_distance p q z e h = sane_within q p (moved_to_within p q z e) (moved_perm p q z e) h

  pub sane_entered : (p to : Pointer) → enter_result p ≡ Some to → Sane kept p → Sane kept to
  sane_entered p to e h = by p.perm refl e
    where
      by : (perm : Perm) → p.perm ≡ perm → option_map (λ (x : Perm). record p { perm = x }) (execute_form perm) ≡ Some to → Sane kept to
      by Ro at k = cc
      by Rw at k = cc
      by Key at k = cc
      by Xp at k = let no : runs_privileged p.perm ≡ true = ap runs_privileged at in let yes = h.user in absurd (cc)
      by Ep at k = let no : runs_privileged p.perm ≡ true = ap runs_privileged at in let yes = h.user in absurd (cc)
      by Xu at k = let same : record p { perm = Xu } ≡ to = cc in subst (Sane kept) same (sane_as p Xu refl (ap has_segment at) h)
      by Eu at k = let same : record p { perm = Xu } ≡ to = cc in subst (Sane kept) same (sane_as p Xu refl (ap has_segment at) h)

  -- 2. Forms, threads, facts and outcomes.

  abbrev pub SaneForm : Form → Type 0
  SaneForm (Exactly p) = Sane kept p
  SaneForm (Inside p) = (runs_privileged p.perm ≡ false) × (is_inside kept p ≡ true)
  SaneForm f = Unit {0}

  pub record SaneThread (t : Thread) : Type 0 where
    pub ip : Sane kept t.ip
    pub forms : AllByRecursion SaneForm t.forms

  abbrev pub SaneFact : Fact → Type 0
  SaneFact (HasThread t) = SaneThread t
  SaneFact (HasForm w f) = SaneForm f
  SaneFact (HasDoor d) = Sane kept d
  SaneFact (HasEvent h e) = SaneForm e.ip × SaneForm e.address × SaneForm e.value
  SaneFact (HasFaulted h t) = SaneThread t
  SaneFact (HasLeak leak) = Unit {0}

  abbrev pub SaneOutcome : Outcome → Type 0
  SaneOutcome (outcome.Goes next) = SaneThread next
  SaneOutcome (outcome.Loads part reg next) = SaneThread next
  SaneOutcome (outcome.Stores part f) = SaneForm f
  SaneOutcome (outcome.HandsOut f leak) = SaneForm f
  SaneOutcome (outcome.Leaves linked) = SaneThread linked
  SaneOutcome (outcome.Leaks leak) = Unit {0}
  SaneOutcome (outcome.Faults address value) = SaneForm address × SaneForm value
  SaneOutcome (outcome.TakesEvent reg next) = SaneThread next
  SaneOutcome (outcome.Resumes how) = Unit {0}
  SaneOutcome (outcome.ReadsServed reg from next) = SaneThread next
  SaneOutcome (outcome.WritesServed reg f) = SaneForm f

  pub sane_form : (t : Thread) → SaneThread t → (r : ℕ) → SaneForm (form_in t r)
  unfolding form_in
  sane_form t h r = each_or SaneForm t.forms r zero_form h.forms tt

  pub sane_with : (t : Thread) (r : ℕ) (f : Form) → SaneThread t → SaneForm f → SaneThread (with_form t r f)
  unfolding with_form
  sane_with t r f h k = record { ip = h.ip; forms = each_set SaneForm t.forms r f h.forms k }

  pub sane_stepped : (t : Thread) → SaneThread t → SaneThread (stepped t)
  unfolding stepped
  sane_stepped t h = record { ip = sane_advanced t.ip h.ip; forms = h.forms }

  pub sane_event : (t : Thread) (rd : ℕ) (a b c : Form) → SaneThread t → SaneForm a → SaneForm b → SaneForm c → SaneThread (with_event t rd a b c)
  sane_event t rd a b c h ha hb hc =
      sane_with (with_form (with_form (with_form t rd Integer) (rd + 1) a) (rd + 2) b) (rd + 3) c
      (sane_with (with_form (with_form t rd Integer) (rd + 1) a) (rd + 2) b
      (sane_with (with_form t rd Integer) (rd + 1) a (sane_with t rd Integer h tt) ha) hb) hc

  pub sane_exactly : (w : Word) → AllByRecursion (Sane kept) (pointers_in w) → SaneForm (exactly w)
  sane_exactly (Int bits) h = tt
  sane_exactly (Ptr p) h = h.0

  pub sane_stored : (f : Form) → SaneForm f → SaneForm (stored_form f)
  unfolding stored_form
  sane_stored (Number n) h = tt
  sane_stored (Exactly p) h = h
  sane_stored Integer h = tt
  sane_stored (Open perm) h = tt
  sane_stored Any h = tt
  sane_stored (Inside p) h = h

  pub sane_whole : (f : Form) → SaneForm f → WholeForm kept f
  sane_whole (Number n) h = tt
  sane_whole (Exactly p) h = h.whole
  sane_whole Integer h = tt
  sane_whole (Open perm) h = tt
  sane_whole Any h = tt
  sane_whole (Inside p) h = h.1

  -- 3. Facts that are made of a thread or a form.

  lets_out : (f : Form) → SaneForm f → AllByRecursion SaneFact (let_out kept f)
  unfolding let_out
  lets_out (Exactly p) h = by (is_door kept p)
    where
      by : (b : Bool) → AllByRecursion SaneFact (if b then HasDoor p ∷ [] else [])
      by true = (h, tt)
      by false = tt
  lets_out (Number n) h = tt
  lets_out Integer h = tt
  lets_out (Open perm) h = tt
  lets_out Any h = tt
  lets_out (Inside p) h = tt

  pub hands_out : (f : Form) (leak : Leak) → SaneForm f → AllByRecursion SaneFact (hand_out kept f leak)
  unfolding hand_out
  hands_out f leak h = by (is_open_form kept f)
    where
      by : (b : Bool) → AllByRecursion SaneFact (if b then let_out kept f else HasLeak leak ∷ [])
      by true = lets_out f h
      by false = (tt, tt)

  loose_sane : (i : Image) (o : Origin) → AllByRecursion SaneFact (loose i kept o)
  loose_sane i (Door d) = tt
  loose_sane i (OfSlot n) = by (is_kernel i kept n && serves_some i n)
    where
      by : (b : Bool) → AllByRecursion SaneFact (if b then HasLeak (Loose n) ∷ [] else [])
      by true = (tt, tt)
      by false = tt

  pub takes_up : (i : Image) (t : Thread) → SaneThread t → AllByRecursion SaneFact (take_up i kept t)
  unfolding take_up
  takes_up i t h = by (is_free kept t)
    where
      by : (b : Bool) → AllByRecursion SaneFact (if b then flat_map (let_out kept) t.forms ++ loose i kept t.origin else HasThread t ∷ [])
      by true =
          each_join SaneFact (flat_map (let_out kept) t.forms) (loose i kept t.origin)
          (each_flat SaneFact (let_out kept) t.forms (each_map SaneForm (λ (f : Form). AllByRecursion SaneFact (let_out kept f)) lets_out t.forms h.forms)) (loose_sane i t.origin)
      by false = (h, tt)

  leaks_only : (t : Thread) → AllByRecursion SaneFact (shown kept t)
  leaks_only t =
      each_join SaneFact (if meets kept t.ip then HasLeak (FaultPointer t.ip.addr) ∷ [] else []) (flat_map (register_shown kept t) (range_with_len 0 16)) (first (meets kept t.ip))
      (each_flat SaneFact (register_shown kept t) (range_with_len 0 16)
      (each_from (λ (r : ℕ). AllByRecursion SaneFact (register_shown kept t r)) (range_with_len 0 16) (λ r c. one r (is_open_form kept (form_in t r)))))
    where
      first : (b : Bool) → AllByRecursion SaneFact (if b then HasLeak (FaultPointer t.ip.addr) ∷ [] else [])
      first true = (tt, tt)
      first false = tt

      one : (r : ℕ) (b : Bool) → AllByRecursion SaneFact (if b then [] else HasLeak (Fault t.ip.addr r (form_in t r)) ∷ [])
      one r true = tt
      one r false = (tt, tt)

  faults_sane : (t : Thread) (h : Handler) (a v : Form) → SaneThread t → SaneForm a → SaneForm v → AllByRecursion SaneFact (fault_facts kept t h a v)
  faults_sane t Nobody a v h ha hv = tt
  faults_sane t (Kernel n) a v h ha hv = ((h.ip, ha, hv), (h, tt))
  faults_sane t Caller a v h ha hv = leaks_only t

  pub outcome_sane : (i : Image) (t : Thread) (o : Outcome) → SaneThread t → SaneOutcome o → AllByRecursion SaneFact (outcome_facts i kept t o)
  outcome_sane i t (outcome.Goes next) h k = takes_up i next k
  outcome_sane i t (outcome.Leaves linked) h k =
      each_join SaneFact (flat_map (register_left kept linked) (range_with_len 0 16)) (loose i kept linked.origin)
      (each_flat SaneFact (register_left kept linked) (range_with_len 0 16)
      (each_from (λ (r : ℕ). AllByRecursion SaneFact (register_left kept linked r)) (range_with_len 0 16)
      (λ r c. hands_out (form_in linked r) (Jump linked.ip.addr r (form_in linked r)) (sane_form linked k r))))
      (loose_sane i linked.origin)
  outcome_sane i t (outcome.HandsOut f leak) h k = hands_out f leak k
  outcome_sane i t (outcome.Leaks leak) h k = (tt, tt)
  outcome_sane i t (outcome.Faults address value) h k = faults_sane t t.handler address value h k.0 k.1
  outcome_sane i t (outcome.Loads part reg next) h k = tt
  outcome_sane i t (outcome.Stores part f) h k = tt
  outcome_sane i t (outcome.TakesEvent reg next) h k = tt
  outcome_sane i t (outcome.Resumes how) h k = tt
  outcome_sane i t (outcome.ReadsServed reg from next) h k = tt
  outcome_sane i t (outcome.WritesServed reg f) h k = tt
