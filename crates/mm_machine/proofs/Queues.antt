-- Events beside the numbers of their queues, and the slots that wait.
use Rattle.std.proofs.Common.{◌≡◌, ◌≢◌, ℕ, ◌+◌, inl, inr, Bool, true, false, cond, eqb, List, [], ◌∷◌, map, Option}
use Rattle.std.proofs.Common.{Some, None, refl, sym, ap, subst, ◌∙◌, arith}
use Rattle.std.proofs.lemmas.{Bool.{cases_eq, eq-eqb, ne_eqb}, List.Recursion.is_count_by}
use Rattle.std.specs.{Prelude.IsSomeAnd, List.{AllByRecursion, count_by}}
use Rattle.mm_model.specs.{declared.event.Event.Event, Slot.Slot, State.{ThreadRow, Core, row_in, slot_of, slot_at}}
use Rattle.mm_model.specs.{Flags.one_if, Turn.is_handler, Fits.{is_waiting, waits_for, events_of, slots_of}}
use Rattle.mm_model.proofs.{CoreRows.each_map, CoreSteps.waits_for-says}
use Rattle.mm_thread.specs.Parts.{events_for}
use Rattle.mm_machine.{specs.Snapshot.{numbered, IsEventOf, IsAwaited, HasOneEvent}, proofs.Steps.add_one}

-- 1. The slot of a number.

numbered_row : (rows : List ThreadRow) (n : ℕ) → numbered (map (λ (row : ThreadRow). row.slot) rows) n ≡ slot_of (row_in rows n)
numbered_row [] n = refl
numbered_row (row ∷ rows) n = by (eqb row.slot.number n) (numbered_row rows n)
  where
    by : (b : Bool) → numbered (map (λ (row : ThreadRow). row.slot) rows) n ≡ slot_of (row_in rows n)
        → cond b (Some row.slot) (numbered (map (λ (row : ThreadRow). row.slot) rows) n) ≡ slot_of (cond b (Some row) (row_in rows n))
    by true rest = refl
    by false rest = rest

pub slot_numbered : (core : Core) (n : ℕ) → numbered (slots_of core) n ≡ slot_at core n
unfolding slot_at
slot_numbered core n = numbered_row core.rows n

-- what holds of each slot holds of the slot of a number
pub numbered_has : (P : Slot → Type 0) (slots : List Slot) (n : ℕ) (s : Slot) → AllByRecursion P slots → numbered slots n ≡ Some s → P s × (s.number ≡ n)
numbered_has P [] n s all is = cc
numbered_has P (t ∷ slots) n s all is = elim (cases_eq t.number n) as (λ _. P s × (s.number ≡ n)) [
  | inl here ↦
      let found : ◌≡◌ {A = Option Slot} (Some t) (Some s) = rw (eq-eqb t.number n here) at is in
      let same : t ≡ s = cc in
      (subst P same all.0, ap (λ (x : Slot). x.number) (sym same) ∙ here)
  | inr there ↦ numbered_has P slots n s all.1 (rw (ne_eqb t.number n there) at is)
]

-- 2. How many of the events are of a slot.

abbrev pub tally : ℕ → List (ℕ × Event) → ℕ
tally n [] = 0
tally n (x ∷ xs) = cond (eqb x.1.slot n) (tally n xs + 1) (tally n xs)

pub tallied : (n : ℕ) (xs : List (ℕ × Event)) → tally n xs ≡ count_by (λ (x : ℕ × Event). eqb x.1.slot n) xs
tallied n xs = is_count_by (tally n) (λ (x : ℕ × Event). eqb x.1.slot n) refl (λ x ys. add_one (eqb x.1.slot n) (tally n ys)) xs

-- where each event of a slot stands beside one number, all of them stand in that queue
pub all_for : (n h : ℕ) (xs : List (ℕ × Event)) → AllByRecursion (λ (x : ℕ × Event). x.1.slot ≡ n → x.0 ≡ h) xs → events_of n (events_for h xs) ≡ tally n xs
all_for n h [] all = refl
all_for n h (x ∷ xs) all = elim (cases_eq x.1.slot n) as (λ _. events_of n (events_for h (x ∷ xs)) ≡ tally n (x ∷ xs)) [
  | inl is ↦ rw (eq-eqb x.0 h (all.0 is), eq-eqb x.1.slot n is) (ap (λ (k : ℕ). k + 1) (all_for n h xs all.1))
  | inr ne ↦ elim (cases_eq x.0 h) as (λ _. events_of n (events_for h (x ∷ xs)) ≡ tally n (x ∷ xs)) [
    | inl here ↦ rw (eq-eqb x.0 h here, ne_eqb x.1.slot n ne) (all_for n h xs all.1)
    | inr there ↦ rw (ne_eqb x.0 h there, ne_eqb x.1.slot n ne) (all_for n h xs all.1)
  ]
]

pub none_for : (n h : ℕ) (xs : List (ℕ × Event)) → AllByRecursion (λ (x : ℕ × Event). x.1.slot ≡ n → x.0 ≢ h) xs → events_of n (events_for h xs) ≡ 0
none_for n h [] all = refl
none_for n h (x ∷ xs) all = elim (cases_eq x.0 h) as (λ _. events_of n (events_for h (x ∷ xs)) ≡ 0) [
  | inl here ↦ rw (eq-eqb x.0 h here, ne_eqb x.1.slot n (λ is. all.0 is here)) (none_for n h xs all.1)
  | inr there ↦ rw (ne_eqb x.0 h there) (none_for n h xs all.1)
]

pub none_tallied : (n : ℕ) (xs : List (ℕ × Event)) → AllByRecursion (λ (x : ℕ × Event). x.1.slot ≢ n) xs → tally n xs ≡ 0
none_tallied n [] all = refl
none_tallied n (x ∷ xs) all = rw (ne_eqb x.1.slot n all.0) (none_tallied n xs all.1)

-- 3. Events of a slot that waits for the handler beside which they stand.

abbrev pub AwaitedBy : ℕ → Option Slot → ℕ × Event → Type 0
AwaitedBy n o x = x.1.slot ≡ n → waits_for x.0 o ≡ true

one_handler : (o : Option Slot) (g h : ℕ) → waits_for g o ≡ true → waits_for h o ≡ true → g ≡ h
one_handler None g h a b = cc
one_handler (Some s) g h a b = let first = waits_for-says g s a in let second = waits_for-says h s b in cc

pub beside_one : (n h : ℕ) (o : Option Slot) (xs : List (ℕ × Event)) → waits_for h o ≡ true → AllByRecursion (AwaitedBy n o) xs → events_of n (events_for h xs) ≡ tally n xs
beside_one n h o xs waits all = all_for n h xs (each_map (AwaitedBy n o) (λ (x : ℕ × Event). x.1.slot ≡ n → x.0 ≡ h) (λ x a is. one_handler o x.0 h (a is) waits) xs all)

pub beside_none : (n h : ℕ) (o : Option Slot) (xs : List (ℕ × Event)) → waits_for h o ≡ false → AllByRecursion (AwaitedBy n o) xs → events_of n (events_for h xs) ≡ 0
beside_none n h o xs waits all =
    none_for n h xs (each_map (AwaitedBy n o) (λ (x : ℕ × Event). x.1.slot ≡ n → x.0 ≢ h)
    (λ x a is here. let no : waits_for x.0 o ≡ false = ap (λ (k : ℕ). waits_for k o) here ∙ waits in let yes = a is in cc) xs all)

pub of_none : (n : ℕ) (o : Option Slot) (xs : List (ℕ × Event)) → ((h : ℕ) → waits_for h o ≡ false) → AllByRecursion (AwaitedBy n o) xs → tally n xs ≡ 0
of_none n o xs waits all = none_tallied n xs (each_map (AwaitedBy n o) (λ (x : ℕ × Event). x.1.slot ≢ n) (λ x a is. let yes = a is in let no = waits x.0 in cc) xs all)

pub awaits : (o : Option Slot) (x : ℕ × Event) → IsSomeAnd o (IsEventOf x.0 x.1) → waits_for x.0 o ≡ true
awaits None x h = absurd h
awaits (Some s) x h = h.waits

pub awaited_by : (slots : List Slot) (n : ℕ) (xs : List (ℕ × Event)) → AllByRecursion (IsAwaited slots) xs → AllByRecursion (AwaitedBy n (numbered slots n)) xs
awaited_by slots n xs all =
    each_map (IsAwaited slots) (AwaitedBy n (numbered slots n))
    (λ x a is. ap (λ (k : ℕ). waits_for x.0 (numbered slots k)) (sym is) ∙ awaits (numbered slots x.1.slot) x a) xs all

module _ (slots : List Slot) (events : List (ℕ × Event)) (awaited : AllByRecursion (IsAwaited slots) events) (one : AllByRecursion (HasOneEvent events) slots) where
  -- a slot has one event where it waits
  one_at : (n : ℕ) (s : Slot) → numbered slots n ≡ Some s → tally n events ≡ one_if (is_waiting s.state)
  one_at n s is =
      let at = numbered_has (HasOneEvent events) slots n s one is in
      tallied n events ∙ ap (λ (k : ℕ). count_by (λ (x : ℕ × Event). eqb x.1.slot k) events) (sym at.1) ∙ at.0.count

  -- waiting slots and queued events match
  pub matched : (n h : ℕ) → events_of n (events_for h events) ≡ one_if (waits_for h (numbered slots n))
  matched n h = by (numbered slots n) refl (waits_for h (numbered slots n)) refl
    where
      by : (o : Option Slot) → numbered slots n ≡ o → (b : Bool) → waits_for h (numbered slots n) ≡ b → events_of n (events_for h events) ≡ one_if b
      by o is false waits = beside_none n h (numbered slots n) events waits (awaited_by slots n events awaited)
      by None is true waits = let no = ap (waits_for h) is in cc
      by (Some s) is true waits =
          let says = waits_for-says h s (sym (ap (waits_for h) is) ∙ waits) in
          beside_one n h (numbered slots n) events waits (awaited_by slots n events awaited) ∙ one_at n s is ∙ ap one_if says.0

  -- a slot that waits has a handler
  pub waits_handled : (n : ℕ) (s : Slot) → numbered slots n ≡ Some s → is_waiting s.state ≡ true → s.handler ≢ None
  waits_handled n s is waits none =
      let never : (h : ℕ) → waits_for h (numbered slots n) ≡ false = λ h. ap (waits_for h) is ∙ by h in
      let zero : tally n events ≡ 0 = of_none n (numbered slots n) events never (awaited_by slots n events awaited) in
      let once : tally n events ≡ 1 = one_at n s is ∙ ap one_if waits in
      omega (arith, zero, once)
    where
      by : (h : ℕ) → waits_for h (Some s) ≡ false
      by h = ap (λ (b : Bool). cond b (is_handler h s.handler) false) waits ∙ ap (is_handler h) none
