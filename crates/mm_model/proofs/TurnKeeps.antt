-- A turn keeps what a core is, what matches in it, and what the types keep of it.
use Rattle.std.proofs.Common.{flat_map, ◌≡◌, ℕ, ◌+◌, ◌<◌, ◌≤◌, Bool, true, false, ◌&&◌, ◌||◌, nat_eq, if◌then◌else◌}
use Rattle.std.proofs.Common.{List, [], ◌∷◌, ◌++◌, length, Option, Some, None, refl, sym, ap, ◌∙◌, subst, arith, eq-eqb}
use Rattle.std.proofs.{Common.{slice_set, slice_index_or, get_or-set_same, length-append}, lemmas.Bool.or_right}
use Rattle.std.specs.List.{AllByRecursion, list_any}
use Rattle.mm_word.specs.{declared.{cause.Cause.Cause, word.Word.{Word, TheVariants.Int}}, Access.AccessValue}
use Rattle.mm_word.specs.Perm.{can_fetch}
use Rattle.mm_isa.specs.declared.{instr.Instr.Instr, operand.Operand.{Operand, TheVariants.{Rd, EvtRd}}}
use Rattle.mm_isa.specs.Table.{operation_of, IsInRange, IsInstr}
use Rattle.mm_model.specs.declared.slot.{SlotState.{SlotState, TheVariants.{Running, Waiting, Halted}}, Pending.Pending}
use Rattle.mm_model.specs.{declared.event.Event.Event, Memory.Memory, Uses.Use, Slot.{Slot, register, is_empty}}
use Rattle.mm_model.specs.{State.{Core, slot_at, put_slot, put_queue, output_of, put_output}, Image.output_limit}
use Rattle.mm_model.specs.Groups.{has_group}
use Rattle.mm_model.specs.Operands.{addr_operand, value_operand, field_a, field_b, rd_in, fields_d, field_empty, lacks}
use Rattle.mm_model.specs.{Ask.ask, Effect.{Change, Effect, effect, delivered, Effect.{Fault, Block, Deliver, Do}}}
use Rattle.mm_model.specs.Turn.{Turned, reply, put_all, state_after, with_issue, slot_after, with_other, with_queue}
use Rattle.mm_model.specs.Turn.{with_out, core_after, stood, is_sync, event_of, core_faulted, faulted, touch_of}
use Rattle.mm_model.specs.Turn.{asked_use, blocked, ended, executed, idle, arrives, is_running, is_taken, turn}
use Rattle.mm_model.specs.Fits.{is_waiting, identity_of, slots_of, IsSlot, IsFormed, Matches, IsCore}
use Rattle.mm_model.proofs.CoreRows.{slot_at-put_other, slot_at-put_queue, put_queue-put_slot, slot_has, slot_contained}
use Rattle.mm_model.proofs.CoreRows.{each_contained, each_map, of_version_by, has_group_by, stays_by}
use Rattle.mm_model.proofs.SlotSteps.{GoesOn, goes_then, slot_stands, slot_stood, slot_put_all, slot_issued}
use Rattle.mm_model.proofs.SlotSteps.{slot_delivered, delivered_from}
use Rattle.mm_model.proofs.CoreSteps.{Fitting, Keeps, keeps_self, keeps_then, Replaces, put_keeps, puts_keep}
use Rattle.mm_model.proofs.CoreSteps.{wait_keeps, waited, take_keeps, out_keeps}
use Rattle.mm_model.proofs.EffectSteps.{OtherKeeps, EventTaken, Moves, IssueKeeps, OutKeeps, ChangeKeeps, EffectKeeps}
use Rattle.mm_model.proofs.EffectSteps.{running_waits_not, waiting_runs_not, effect_keeps}
use Rattle.mm_model.proofs.TurnShapes.{fetch_uses, fetch_use, started_one, turn_by}

-- 1. The registers that an instruction names for its results.

registers_small : (os : List Operand) → AllByRecursion IsInRange os → AllByRecursion (λ (r : ℕ). r < 16) (flat_map rd_in os)
registers_small [] h = tt
registers_small (Rd r ∷ os) h = (h.0, registers_small os h.1)
registers_small (EvtRd r ∷ os) h = (omega (arith, h.0), (omega (arith, h.0), (omega (arith, h.0), (omega (arith, h.0), registers_small os h.1))))
registers_small (_ ∷ os) h = registers_small os h.1

fields_small : (i : Instr) → IsInstr i → AllByRecursion (λ (r : ℕ). r < 16) (fields_d i)
fields_small i h = registers_small (operation_of i).operands h.operands

none_passes : (p : ℕ → Bool) (rs : List ℕ) → list_any p rs ≡ false → AllByRecursion (λ r. p r ≡ false) rs
none_passes p [] e = tt
none_passes p (r ∷ rs) e = by (p r) refl e (λ f. none_passes p rs f)
  where
    by : (b : Bool) → p r ≡ b → (b || list_any p rs) ≡ false → (list_any p rs ≡ false → AllByRecursion (λ x. p x ≡ false) rs) → AllByRecursion (λ x. p x ≡ false) (r ∷ rs)
    by true at e rest = cc
    by false at e rest = (at, rest e)

first_false : (a b : Bool) → (a || b) ≡ false → a ≡ false
first_false true b e = e
first_false false b e = refl

pub each_of : {A : Type 0} (P : A → Type 0) → ((x : A) → P x) → (xs : List A) → AllByRecursion P xs
each_of P f [] = tt
each_of P f (x ∷ xs) = (f x, each_of P f xs)

-- where an instruction lacks no register, none that it names for a result waits for a load in a split machine
fields_free : (split : Bool) (s : Slot) (i : Instr) → (split && lacks i s) ≡ false → AllByRecursion (λ (r : ℕ). split ≡ true → is_empty s r ≡ false) (fields_d i)
unfolding lacks
fields_free true s i e =
    each_map (λ (r : ℕ). is_empty s r ≡ false) (λ (r : ℕ). true ≡ true → is_empty s r ≡ false) (λ r free on. free) (fields_d i)
    (none_passes (is_empty s) (fields_d i) (first_false (list_any (is_empty s) (fields_d i)) (field_empty s (field_a i) || field_empty s (field_b i)) e))
fields_free false s i e = each_of (λ (r : ℕ). false ≡ true → is_empty s r ≡ false) (λ r on. cc) (fields_d i)

-- what an instruction does lets the core go on
pub row_keeps : (core : Core) → IsFormed core → (s : Slot) → slot_at core s.number ≡ Some s → (m : Memory) (i : Instr)
    → IsInstr i → (core.split && lacks i s) ≡ false → EffectKeeps core s
    (effect core.split i s (reply core m s.number (ask i s)))
row_keeps core h s at m i instr e = effect_keeps core h s at m i (fields_free core.split s i e) (fields_small i instr)

-- 2. What the slot itself goes on to be.

rests_after : (b : Bool) → (is_waiting (state_after b) ≡ false) × (is_taken (state_after b) ≡ false)
rests_after true = (refl, refl)
rests_after false = (refl, refl)

-- what a change leaves of its slot
pub record ChangedFrom (s t : Slot) (c : Change) : Type 0 where
  pub number : t.number ≡ s.number
  pub group : t.group ≡ s.group
  pub handler : t.handler ≡ s.handler
  pub ip : t.ip ≡ c.next
  pub turns : t.turns ≡ s.turns + 1
  pub state : t.state ≡ state_after c.halts

pub changed_from : (s : Slot) (c : Change) → ChangedFrom s (slot_after s c) c
unfolding slot_after
changed_from s c = by c.issue
  where
    by : (o : Option Pending) → ChangedFrom s (with_issue (record s { regs = put_all s.regs c.writes; ip = c.next; past = c.past; turns = s.turns + 1; state = state_after c.halts }) o) c
    by None = record { number = refl; group = refl; handler = refl; ip = refl; turns = refl; state = refl }
    by (Some p) = record { number = refl; group = refl; handler = refl; ip = refl; turns = refl; state = refl }

module _ (split : Bool) (s : Slot) (h : IsSlot s) (c : Change) (runs : can_fetch c.next.perm ≡ true) (writes : AllByRecursion (λ (w : ℕ × Word). split ≡ true → is_empty s w.0 ≡ false) c.writes) where
  abbrev written : Slot
  written = record s { regs = put_all s.regs c.writes; ip = c.next; past = c.past; turns = s.turns + 1; state = state_after c.halts }

  written_goes : GoesOn split s written
  written_goes =
      let first = slot_put_all split s c.writes h writes in
      let one : Slot = record s { regs = put_all s.regs c.writes } in
      goes_then split s one written first (slot_stands split one c.next c.past (s.turns + 1) (state_after c.halts) first.slot runs)

  issued_goes : (o : Option Pending) → IssueKeeps split c.writes o → GoesOn split s (with_issue written o)
  unfolding register is_empty
  issued_goes None k = written_goes
  issued_goes (Some p) k =
      let free : is_empty s p.reg ≡ false = (subst (AllByRecursion (λ (w : ℕ × Word). split ≡ true → is_empty s w.0 ≡ false)) k.2 writes).0 k.0 in
      let regs : put_all s.regs c.writes ≡ slice_set s.regs p.reg (Int 0) = ap (put_all s.regs) k.2 in
      goes_then split s written (with_issue written (Some p)) written_goes
      (slot_issued split written p written_goes.slot k.0 k.1 free
      (ap (λ (all : List Word). slice_index_or all p.reg (Int 0)) regs ∙ get_or-set_same s.regs p.reg (Int 0) (Int 0) (omega (arith, h.registers, k.1))))

-- 3. What a change makes of the core.

each_any : {A : Type 0} (p : A → Bool) (xs : List A) → AllByRecursion (λ x. p x ≡ true → list_any p xs ≡ true) xs
each_any p [] = tt
each_any p (x ∷ xs) = (
  (λ e. ap (λ b. b || list_any p xs) e),
  each_map (λ y. p y ≡ true → list_any p xs ≡ true) (λ y. p y ≡ true → list_any p (x ∷ xs) ≡ true) (λ y f e. or_right (p x) (list_any p xs) (f e)) xs (each_any p xs),
)

pub has_own_group : (core : Core) (n : ℕ) (s : Slot) → slot_at core n ≡ Some s → has_group (slots_of core) s.group ≡ true
has_own_group core n s is =
    each_contained (λ (t : Slot). nat_eq t.group s.group ≡ true → has_group (slots_of core) s.group ≡ true)
    (slots_of core) s (each_any (λ (t : Slot). nat_eq t.group s.group) (slots_of core)) (slot_contained core n s is)
    (eq-eqb s.group s.group refl)

module _ (core : Core) (h : IsFormed core) (s : Slot) (at : slot_at core s.number ≡ Some s) (running : is_running s.state ≡ true) where
  own : IsSlot s
  own = slot_has IsSlot core s.number s h.slots at

  waits_not : is_waiting s.state ≡ false
  waits_not = running_waits_not s.state running

  -- The slot with a change is put where a slot with its identity stands, which is the slot itself where the core fits.
  own_keeps : (c : Change) → ChangeKeeps core s c → (mid : Core) → Keeps core mid → (Fitting core → slot_at mid s.number ≡ Some s) → Keeps core (put_slot mid (slot_after s c))
  unfolding slot_after
  own_keeps c k mid to mid_at =
      let from = changed_from s c in
      let number = from.number in
      let group = from.group in
      let handler = from.handler in
      let goes : GoesOn core.split s (slot_after s c) = issued_goes core.split s own c k.runs k.writes c.issue k.issue in
      let stays = stays_by core mid s.number s to.identities at in
      let same : identity_of s ≡ identity_of (slot_after s c) = cc in
      put_keeps core mid (slot_after s c) stays.now to (ap (slot_at mid) number ∙ stays.is) (stays.same ∙ same) goes.slot
      (λ fit. record {
        replaces = record {
          old = s;
          stands = ap (slot_at mid) number ∙ mid_at fit;
          group = sym group;
          handler = sym handler;
          ip = λ w. cc (w, waits_not);
          goes_on = subst (λ b. GoesOn b s (slot_after s c)) (sym to.split) goes;
        };
        waits = waits_not ∙ sym (ap is_waiting from.state ∙ (rests_after c.halts).0);
        taken = λ before t. cc (t, ap is_taken from.state, (rests_after c.halts).1);
      })

  -- another slot, that does not run, is put
  pub still_there : (o : Slot) (r : Replaces core o) → is_running r.old.state ≡ false → slot_at (put_slot core o) s.number ≡ Some s
  still_there o r runs_not =
      slot_at-put_other core o s.number
      (λ same.
      let two : ◌≡◌ {A = Option Slot} (Some s) (Some r.old) = sym at ∙ ap (slot_at core) same ∙ r.stands in
      let one : s ≡ r.old = cc in
      cc (ap (λ (x : Slot). is_running x.state) one, running, runs_not))
      ∙ at

  pub other_keeps : (o : Slot) → OtherKeeps core s.number o → Keeps core (put_slot core o)
  other_keeps o k =
      puts_keep core o h (record { replaces = k.replaces; waits = k.waits_not ∙ sym k.nor_later; taken = λ before t none. cc (k.served, k.replaces.handler, none) })

  -- the slot whose event was taken waited, so it is not this one
  pub event_waited : (o : Slot) (rest : List Event) (k : EventTaken core s.number rest o) → Matches core → is_running k.replaces.old.state ≡ false
  event_waited o rest k match = waiting_runs_not k.replaces.old.state (waited core o s.number k.event rest h k.replaces k.queue k.slot k.waits_not s at match).0

  moved_keeps : (c : Change) → ChangeKeeps core s c → Moves core s.number c → (q : Option (List Event)) (o : Option Slot) → c.queue ≡ q → c.other ≡ o
      → Keeps core (with_queue (put_slot (with_other core o) (slot_after s c)) s.number q)
  moved_keeps c k (Moves.keeps_all a b) None None qi oi = own_keeps c k core (keeps_self core h) (λ fit. at)
  moved_keeps c k (Moves.keeps_all a b) (Some q) o qi oi = cc (a, qi)
  moved_keeps c k (Moves.keeps_all a b) None (Some o) qi oi = cc (b, oi)
  moved_keeps c k (Moves.frees o f a b) (Some q) p qi oi = cc (a, qi)
  moved_keeps c k (Moves.frees o f a b) None None qi oi = cc (b, oi)
  moved_keeps c k (Moves.frees o f a b) None (Some p) qi oi =
      let two : ◌≡◌ {A = Option Slot} (Some o) (Some p) = sym b ∙ oi in
      let one : o ≡ p = cc in
      subst (λ (v : Slot). Keeps core (put_slot (put_slot core v) (slot_after s c))) one
      (own_keeps c k (put_slot core o) (other_keeps o f) (λ fit. still_there o f.replaces f.runs_not))
  moved_keeps c k (Moves.takes_event o rest t a b) None p qi oi = cc (a, qi)
  moved_keeps c k (Moves.takes_event o rest t a b) (Some q) None qi oi = cc (b, oi)
  moved_keeps c k (Moves.takes_event o rest t a b) (Some q) (Some p) qi oi =
      let two : ◌≡◌ {A = Option Slot} (Some o) (Some p) = sym b ∙ oi in
      let one : o ≡ p = cc in
      let four : ◌≡◌ {A = Option (List Event)} (Some rest) (Some q) = sym a ∙ qi in
      let three : rest ≡ q = cc in
      let mid : Core = put_queue (put_slot core o) s.number rest in
      subst (λ (v : Slot). Keeps core (put_queue (put_slot (put_slot core v) (slot_after s c)) s.number q)) one
      (subst (λ (v : List Event). Keeps core (put_queue (put_slot (put_slot core o) (slot_after s c)) s.number v)) three
      (subst (Keeps core) (sym (put_queue-put_slot (put_slot core o) (slot_after s c) s.number rest))
      (own_keeps c k mid (take_keeps core o s.number t.event rest h t.replaces t.queue t.slot t.waits_not s at)
      (λ fit. slot_at-put_queue (put_slot core o) s.number rest s.number ∙ still_there o t.replaces (event_waited o rest t fit.matched)))))

  outputs_kept : (c : Change) (o : Option Slot) (q : Option (List Event)) → (with_queue (put_slot (with_other core o) (slot_after s c)) s.number q).outputs ≡ core.outputs
  unfolding put_slot put_queue
  outputs_kept c None None = refl
  outputs_kept c None (Some q) = refl
  outputs_kept c (Some o) None = refl
  outputs_kept c (Some o) (Some q) = refl

  byte_keeps : (mid : Core) → Keeps core mid → mid.outputs ≡ core.outputs → (o : Option ℕ) → OutKeeps core s.group o → Keeps core (with_out mid s.group o)
  unfolding output_of
  byte_keeps mid to same None room = to
  byte_keeps mid to same (Some byte) room =
      let was : output_of mid s.group ≡ output_of core s.group = ap (λ (all : List (List ℕ)). slice_index_or all s.group []) same in
      let long : length (output_of mid s.group ++ byte ∷ []) ≡ length (output_of core s.group) + 1 = length-append
      (output_of mid s.group) (byte ∷ []) ∙ ap (λ (bytes : List ℕ). length bytes + 1) was in
      let few : length (output_of mid s.group ++ byte ∷ []) ≤ output_limit mid.version = subst (λ v. length (output_of mid s.group ++ byte ∷ []) ≤ output_limit v) (sym to.version) (omega arith) in
      keeps_then core mid (put_output mid s.group (output_of mid s.group ++ byte ∷ [])) to
      (out_keeps mid s.group (output_of mid s.group ++ byte ∷ []) to.formed (has_group_by core mid s.group to.identities ∙ has_own_group core s.number s at) few)

  change_keeps : (c : Change) → ChangeKeeps core s c → Keeps core (core_after core s c)
  unfolding core_after
  change_keeps c k = byte_keeps (with_queue (put_slot (with_other core c.other) (slot_after s c)) s.number c.queue)
      (moved_keeps c k k.moves c.queue c.other refl refl) (outputs_kept c c.other c.queue) c.out k.room

  -- 4. What a fault and a wait make of the core.

  stood_replaces : (state : SlotState) → Replaces core (stood s state)
  stood_replaces state = record { old = s; stands = at; group = refl; handler = refl; ip = λ w. refl; goes_on = slot_stood core.split s state own }

  rested_keeps : (state : SlotState) → is_waiting state ≡ false → is_taken state ≡ false → Keeps core (put_slot core (stood s state))
  unfolding stood_replaces
  rested_keeps state rests free = puts_keep core (stood s state) h (record { replaces = stood_replaces state; waits = waits_not ∙ sym rests; taken = λ before t. cc (t, free) })

  faulted_keeps : (e : Event) (o : Option ℕ) → s.handler ≡ o → e.slot ≡ s.number → e.ip ≡ s.ip → Keeps core (core_faulted core s e o)
  unfolding core_faulted stood_replaces
  faulted_keeps e (Some g) is slot ip = wait_keeps core (stood s Waiting) g e h (stood_replaces Waiting) waits_not refl refl is slot ip
  faulted_keeps e None is slot ip = by (is_sync e.cause)
    where
      by : (b : Bool) → Keeps core (if b then put_slot core (stood s Running) else put_slot core (stood s (Halted (Some e.cause))))
      by true = rested_keeps Running refl refl
      by false = rested_keeps (Halted (Some e.cause)) refl refl

  fault_keeps : (m : Memory) (c : Cause) (a v : Word) (f t : Option AccessValue) (us : List Use) → Keeps core (faulted core m s c a v f t us).core
  unfolding faulted event_of
  fault_keeps m c a v f t us = faulted_keeps (event_of s c a v) s.handler refl refl refl

  blocked_keeps : (m : Memory) (f : AccessValue) (t : Option AccessValue) (us : List Use) → Keeps core (blocked core m s f t us).core
  unfolding blocked
  blocked_keeps m f t us = rested_keeps Running refl refl

-- the slot with its oldest load delivered
module _ (core : Core) (h : IsFormed core) (s : Slot) (at : slot_at core s.number ≡ Some s) where
  delivered_goes : GoesOn core.split s (delivered s)
  delivered_goes = slot_delivered core.split s (slot_has IsSlot core s.number s h.slots at)

  delivered_there : slot_at core (delivered s).number ≡ Some s
  delivered_there = ap (slot_at core) (delivered_from s).number ∙ at

  -- the slot waits for it
  lacking_keeps : is_running s.state ≡ true → (m : Memory) (f : AccessValue) (us : List Use) → Keeps core (blocked core m (delivered s) f None us).core
  unfolding blocked
  lacking_keeps running m f us =
      let from = delivered_from s in
      let goes = goes_then core.split s (delivered s) (stood (delivered s) Running) delivered_goes (slot_stood core.split (delivered s) Running delivered_goes.slot) in
      puts_keep core (stood (delivered s) Running) h
      (record {
        replaces = record { old = s; stands = delivered_there; group = sym from.group; handler = sym from.handler; ip = λ w. sym from.ip; goes_on = goes };
        waits = running_waits_not s.state running;
        taken = λ before t. cc;
      })

  -- or a port delivers it, whatever the slot does
  arrives_keeps : (m : Memory) (p : Pending) (rest : List Pending) → Keeps core (arrives core m s (p ∷ rest)).core
  arrives_keeps m p rest =
      let from = delivered_from s in
      puts_keep core (delivered s) h
      (record {
        replaces = record { old = s; stands = delivered_there; group = sym from.group; handler = sym from.handler; ip = λ w. sym from.ip; goes_on = delivered_goes };
        waits = sym (ap is_waiting from.state);
        taken = λ before t none. before (sym (ap is_taken from.state) ∙ t) (sym from.handler ∙ none);
      })

-- 5. The turn.

module _ (core : Core) (h : IsFormed core) (s : Slot) (at : slot_at core s.number ≡ Some s) (running : is_running s.state ≡ true) where
  ended_keeps : (m : Memory) (i : Instr) (f : AccessValue) (t : Option AccessValue) (us : List Use) (x : Effect) → EffectKeeps core s x → Keeps core (ended core m s i f t us x).core
  unfolding ended
  ended_keeps m i f t us (Fault c) k = fault_keeps core h s at running m c (addr_operand i s) (value_operand i s) (Some f) t us
  ended_keeps m i f t us Block k = blocked_keeps core h s at running m f t us
  ended_keeps m i f t us (Deliver o) k =
      let to = other_keeps core h s at running o k in
      keeps_then core (put_slot core o) (blocked (put_slot core o) m s f t us).core to
      (blocked_keeps (put_slot core o) to.formed s (still_there core h s at running o k.replaces k.runs_not) running m f t us)
  ended_keeps m i f t us (Do c) k = change_keeps core h s at running c k

-- what a turn leaves
pub turn_keeps : (core : Core) (m : Memory) → IsFormed core → (n : ℕ) → Keeps core (turn core m n).core
unfolding idle executed
turn_keeps core m h n = turn_by core m n P (record {
  idles = λ k none. keeps_self core h;
  arrives_at = λ s p rest free port is. arrives_keeps core h s port.at m p rest;
  starts = λ s r own. started_one core m s P (record {
    faults = λ c f done aim. fault_keeps core h s own r.running m c (Int 0) (Int 0) f None (fetch_uses f done);
    lacks_register = λ f i aim is lacking. lacking_keeps core h s own r.running m f (fetch_use f ∷ []);
    carries_out = λ f i aim is has.
        ended_keeps core h s own r.running m i f (touch_of (ask i s)) (fetch_use f ∷ asked_use m (ask i s)) (effect core.split i s (reply core m s.number (ask i s)))
        (row_keeps core h s own m i is.whole has);
  });
})
  where
    P : Turned → Type 0
    P t = Keeps core t.core

-- so the core of a machine stays one
pub core_keeps : (core : Core) (m : Memory) (n : ℕ) → IsCore core → IsCore (turn core m n).core
core_keeps core m n h =
    let later : Core = (turn core m n).core in
    let keeps = turn_keeps core m h.formed n in
    let fit : Fitting core = record { handlers = h.handlers; matched = h.matched } in
    record {
      formed = keeps.formed;
      numbers = of_version_by 2 (slots_of later) (slots_of core) keeps.identities h.numbers;
      handlers = (keeps.fitting fit).handlers;
      matched = (keeps.fitting fit).matched;
      kept = keeps.kept fit h.kept;
    }
