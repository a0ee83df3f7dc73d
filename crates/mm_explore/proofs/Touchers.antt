-- The slot that a turn with an access or with a fault is about, and its group.
use Rattle.std.proofs.Common.{◌≡◌, inl, inr, ℕ, ◌+◌, ◌-◌, ◌≤◌, Bool, true, false, ◌&&◌, ◌==◌, if◌then◌else◌, List, [], ◌∷◌, map}
use Rattle.std.proofs.Common.{Option, Some, None, refl, sym, ap, ◌∙◌, subst, arith, eqb-true, eq-eqb, zero-add}
use Rattle.std.proofs.lemmas.{Bool.{and_parts, or_left, or_right}, List.FromFn.{length-range_with_len, get_or-range_with_len}}
use Rattle.std.specs.{Prelude.Contains, List.{list_any, range_with_len}}
use Rattle.mm_word.specs.{Access.AccessValue, Cause.{number_of, cause_numbers}, declared.cause.Cause.Cause}
use Rattle.mm_word.proofs.Causes.{number_within}
use Rattle.mm_isa.specs.declared.instr.Instr.{Instr}
use Rattle.mm_model.specs.declared.{slot.Pending.Pending, step.{Tick.{Tick, TheVariants.{Idle, Blocked, Did, Faulted, Delivered}}}}
use Rattle.mm_model.specs.{Memory.Memory, Uses.Use, Slot.Slot, Ask.ask, Image.{Image, start, slot_limit}, Spelling.{IsImage, IsFresh}}
use Rattle.mm_model.specs.State.{ThreadRow, Core, State, slot_at, row_in, slot_of}
use Rattle.mm_model.specs.Effect.{Effect, effect, Effect.{Fault, Block, Deliver, Do}}
use Rattle.mm_model.specs.Turn.{Turned, reply, faulted, touch_of, asked_use, blocked, ended, executed, started, idle}
use Rattle.mm_model.specs.Turn.{arrives, taken_by_port, taken_by, port_of, is_running, turn}
use Rattle.mm_model.specs.{Fits.{slots_of, identity_of}, Report.{is_of, groups_of}, Run.{turn_of, run}, Trace.{touches, group_of, group_in}}
use Rattle.mm_model.proofs.{CoreRows.{slot_at-number, stays_by}, SlotSteps.delivered_from, Starts.start_slots}
use Rattle.mm_model.proofs.{TurnKeeps.turn_keeps, TurnShapes.{fetch_use, started_one}}
use Rattle.mm_span.proofs.Members.{none_in, in_first, in_rest, in_cases, all_at, in_map, map_in, in_filter}
use Rattle.mm_explore.specs.Findings.{has_fault, fails_by}
use Rattle.mm_config.proofs.States.{runs_state_of}

-- 1. The slot that a turn is about.

-- a turn without an access and without a fault, or one that is about a slot
data AboutTurn (core : Core) (t : Turned) : Type 0 where
  quiet : touches t.step ≡ [] → ((slot cause : ℕ) → has_fault slot cause t.step ≡ true → ⊥) → AboutTurn core t
  of_slot : (x : Slot) → slot_at core x.number ≡ Some x → t.step.slot ≡ x.number → AboutTurn core t

no_fault : (a : Bool) → (a && false) ≡ true → ⊥
no_fault true e = cc
no_fault false e = cc

module _ (core : Core) (m : Memory) where
  ended_slot : (s : Slot) (instr : Instr) (f : AccessValue) (t : Option AccessValue) (us : List Use) (y : Effect) → (ended core m s instr f t us y).step.slot ≡ s.number
  unfolding ended faulted blocked
  ended_slot s instr f t us (Fault cause) = refl
  ended_slot s instr f t us Block = refl
  ended_slot s instr f t us (Deliver o) = refl
  ended_slot s instr f t us (Do d) = refl

  started_slot : (s : Slot) → (started core m s).step.slot ≡ s.number
  unfolding executed faulted blocked
  started_slot s = started_one core m s (λ t. t.step.slot ≡ s.number) (record {
    faults = λ cause f done aim. refl;
    lacks_register = λ f instr aim is lacking. (delivered_from s).number;
    carries_out = λ f instr aim is has.
        ended_slot s instr f (touch_of (ask instr s)) (fetch_use f ∷ asked_use m (ask instr s)) (effect core.split instr s (reply core m s.number (ask instr s)));
  })

  idle_quiet : (k : ℕ) → AboutTurn core (idle core m k)
  unfolding idle
  idle_quiet k = AboutTurn.quiet refl (λ slot cause e. no_fault (k == slot) e)

  arrives_quiet : (x : Slot) (loads : List Pending) → AboutTurn core (arrives core m x loads)
  arrives_quiet x [] = idle_quiet x.number
  arrives_quiet x (p ∷ loads) = AboutTurn.quiet refl (λ slot cause e. no_fault (x.number == slot) e)

  by_port : (n : ℕ) (o : Option Slot) → AboutTurn core (taken_by_port core m n o)
  by_port n None = idle_quiet n
  by_port n (Some x) = arrives_quiet x x.pending

  by_state : (n : ℕ) (x : Slot) → x.number ≡ n → slot_at core n ≡ Some x → (b : Bool) → AboutTurn core (if b then started core m x else idle core m n)
  by_state n x number at true = AboutTurn.of_slot x (ap (slot_at core) number ∙ at) (started_slot x)
  by_state n x number at false = idle_quiet n

  by_slot : (n : ℕ) (o : Option Slot) → slot_at core n ≡ o → AboutTurn core (taken_by core m n o)
  by_slot n None at = by_port n (port_of core n)
  by_slot n (Some x) at = by_state n x (slot_at-number core n x at) at (is_running x.state)

  about_turn : (n : ℕ) → AboutTurn core (turn core m n)
  unfolding turn
  about_turn n = by_slot n (slot_at core n) refl

-- 2. Slots of the image.

-- a slot of the image has the number and the group
record IsIn (i : Image) (n g : ℕ) : Type 0 where
  slot : Slot
  inside : Contains i.slots slot
  number : slot.number ≡ n
  group : slot.group ≡ g

row_in_rows : (rows : List ThreadRow) (n : ℕ) (x : Slot) → slot_of (row_in rows n) ≡ Some x → Contains (map (λ (row : ThreadRow). row.slot) rows) x
row_in_rows [] n x e = cc
row_in_rows (row ∷ rows) n x e = by (row.slot.number == n) (row_in_rows rows n x) e
  where
    by : (b : Bool) → (slot_of (row_in rows n) ≡ Some x → Contains (map (λ (row : ThreadRow). row.slot) rows) x)
        → slot_of (if b then Some row else row_in rows n) ≡ Some x → Contains (map (λ (row : ThreadRow). row.slot) (row ∷ rows)) x
    by true later e = let same : row.slot ≡ x = cc in subst (Contains (row.slot ∷ map (λ (row : ThreadRow). row.slot) rows)) same (in_first row.slot (map (λ (row : ThreadRow). row.slot) rows))
    by false later e = in_rest row.slot (map (λ (row : ThreadRow). row.slot) rows) x (later e)

slot_inside : (core : Core) (n : ℕ) (x : Slot) → slot_at core n ≡ Some x → Contains (slots_of core) x
unfolding slot_at
slot_inside core n x e = row_in_rows core.rows n x e

is_in : (i : Image) (slots : List Slot) → map identity_of slots ≡ map identity_of i.slots → (x : Slot) → Contains slots x → IsIn i x.number x.group
is_in i slots same x inside =
    let there = map_in identity_of i.slots (identity_of x) (subst (λ l. Contains l (identity_of x)) same (in_map identity_of slots x inside)) in
    record {
      slot = there.source;
      inside = there.inside;
      number = ap (λ (y : ℕ × ℕ × Option ℕ). y.0) there.gives;
      group = ap (λ (y : ℕ × ℕ × Option ℕ). y.1) there.gives;
    }

any_in : (g : ℕ) (rows : List ThreadRow) (x : Slot) → Contains (map (λ (row : ThreadRow). row.slot) rows) x → x.group ≡ g → list_any (is_of g) rows ≡ true
any_in g [] x inside e = absurd (none_in x inside)
any_in g (row ∷ rows) x inside e = elim (in_cases row.slot (map (λ (row : ThreadRow). row.slot) rows) x inside) [
  | inl same ↦ or_left (row.slot.group == g) (list_any (is_of g) rows) (eq-eqb row.slot.group g (ap (λ (s : Slot). s.group) same ∙ e))
  | inr later ↦ or_right (row.slot.group == g) (list_any (is_of g) rows) (any_in g rows x later e)
]

-- the group of a slot of the image is one of the groups
group_there : (i : Image) → IsImage i → (number group : ℕ) → IsIn i number group → Contains (groups_of (start i).core) group
group_there i img number group h =
    let fresh : IsFresh (slot_limit i.version) i.slots h.slot = all_at (IsFresh (slot_limit i.version) i.slots) i.slots h.slot img.fresh h.inside in
    let low = fresh.group in
    let limit = small i.version in
    let same = h.group in
    let in_range : Contains (range_with_len 0 64) group = (group, let e = length-range_with_len 0 64 in omega (arith, e, low, limit, same), let r = get_or-range_with_len 0 64 group group (omega (arith, low, limit, same)) in r ∙ zero-add group) in
    in_filter (λ g. list_any (is_of g) (start i).core.rows) (range_with_len 0 64) group in_range
    (any_in group (start i).core.rows h.slot (subst (λ l. Contains l h.slot) (sym (start_slots i)) h.inside) h.group)
  where
    small : (version : ℕ) → slot_limit version ≤ 64
    small version = by (version == 1)
      where
        by : (b : Bool) → (if b then 16 else 64) ≤ 64
        by true = omega arith
        by false = omega arith

-- 3. Accesses and faults.

number_in : (c : Cause) → Contains cause_numbers (number_of c)
number_in c =
    let within = number_within c in
    let low = within.0 in
    let high = within.1 in
    let n = number_of c in
    let e = length-range_with_len 1 13 in
    (n - 1, omega (arith, e, low, high), get_or-range_with_len 1 13 (n - 1) n (omega (arith, low, high)) ∙ (let back : 1 + (n - 1) ≡ n = omega (arith, low) in back))

cause_in : (cause : ℕ) (tick : Tick) → fails_by cause tick ≡ true → Contains cause_numbers cause
cause_in cause Idle e = cc
cause_in cause Blocked e = cc
cause_in cause Did e = cc
cause_in cause (Faulted c) e = subst (Contains cause_numbers) (eqb-true (number_of c) cause e) (number_in c)
cause_in cause (Delivered r) e = cc

module _ (i : Image) (img : IsImage i) (s : List ℕ) (n : ℕ) where
  abbrev there : State
  there = run (start i) s

  known : (x : Slot) → slot_at there.core x.number ≡ Some x → IsIn i x.number x.group
  known x at = is_in i (slots_of there.core) (runs_state_of i s img).fits.same_slots x (slot_inside there.core x.number x at)

  group_about : (x : Slot) → slot_at there.core x.number ≡ Some x → (turn_of there n).step.slot ≡ x.number → group_in (turn_of there n) ≡ x.group
  group_about x at about =
      let t = turn_of there n in
      let now = stays_by there.core t.core x.number x (turn_keeps there.core there.memory (runs_state_of i s img).state.core n).identities at in
      ap (λ k. group_of (slot_at t.core k)) about ∙ ap group_of now.is ∙ ap (λ (y : ℕ × ℕ × Option ℕ). y.1) now.same

  pub toucher_inside : (a : AccessValue) → Contains (touches (turn_of there n).step) a → Contains (groups_of (start i).core) (group_in (turn_of there n))
  toucher_inside a made = by (about_turn there.core there.memory n)
    where
      by : AboutTurn there.core (turn_of there n) → Contains (groups_of (start i).core) (group_in (turn_of there n))
      by (AboutTurn.quiet none fault) = absurd (none_in a (subst (λ l. Contains l a) none made))
      by (AboutTurn.of_slot x at about) = subst (Contains (groups_of (start i).core)) (sym (group_about x at about)) (group_there i img x.number x.group (known x at))

  -- where the fault of a slot is told
  pub record Faulter (k c : ℕ) : Type 0 where
    pub slot : Slot
    pub inside : Contains i.slots slot
    pub number : slot.number ≡ k
    pub cause : Contains cause_numbers c

  pub faulter_inside : (slot cause : ℕ) → has_fault slot cause (turn_of there n).step ≡ true → Faulter slot cause
  faulter_inside slot cause fault = by (about_turn there.core there.memory n)
    where
      by : AboutTurn there.core (turn_of there n) → Faulter slot cause
      by (AboutTurn.quiet none never) = absurd (never slot cause fault)
      by (AboutTurn.of_slot x at about) =
          let parts = and_parts ((turn_of there n).step.slot == slot) (fails_by cause (turn_of there n).step.tick) fault in
          let in_image = known x at in
          record {
            slot = in_image.slot;
            inside = in_image.inside;
            number = in_image.number ∙ sym about ∙ eqb-true (turn_of there n).step.slot slot parts.0;
            cause = cause_in cause (turn_of there n).step.tick parts.1;
          }
