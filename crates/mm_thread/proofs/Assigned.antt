-- How a core is put back part by part.
use Rattle.std.proofs.Common.{◌≡◌, ◌≢◌, ℕ, ◌+◌, ◌<◌, ◌≤◌, ◌⊎◌, inl, inr, Bool, true, false, cond, eqb, List, [], ◌∷◌}
use Rattle.std.proofs.Common.{◌++◌, length, map, take, drop, get_or, set, replicate, Option, Some, None, refl, sym, ap}
use Rattle.std.proofs.{Common.{subst, ◌∙◌, arith}, Math.Seq.get_or-append_seam}
use Rattle.std.proofs.lemmas.Bool.{cases_eq, eq-eqb, ne_eqb}
use Rattle.std.proofs.lemmas.List.{set_at, drop_more, take_more, length-append, length-map, length-take-le, map_push}
use Rattle.std.proofs.lemmas.List.{append_assoc, replicate_more, length-replicate}
use Rattle.std.specs.{Prelude.IfSome, List.AllByRecursion}
use Rattle.mm_model.specs.{declared.event.Event.Event, Slot.Slot}
use Rattle.mm_model.specs.State.{ThreadRow, Core, row_in, slot_of, queue_of, slot_at, queue_at, output_of, at_number}
use Rattle.mm_model.specs.{State.put_queue, Fits.{slots_of, IsCore}}
use Rattle.mm_model.proofs.{CoreRows.{each_map, slots_found}, Shortness.queue_short}
use Rattle.mm_thread.specs.{Output.Output, SlotIndices.{row_alone, slot_in, queue_in, with_queue_in}}
use Rattle.mm_thread.specs.{Tables.AreNumbered, Parts.{events_for, row_with, core_of}}
use Rattle.mm_thread.proofs.{Cores.output_short, Index.{row_found, queue_found, put_queue-at}}

-- 1. One event.

module _ (core : Core) (apart : AreNumbered core.rows) where
  pub event_put : (p n : ℕ) (e : Event) → p < length core.rows → (slot_in core p).number ≡ n → with_queue_in core p (queue_in core p ++ e ∷ []) ≡ put_queue core n (queue_at core n ++ e ∷ [])
  event_put p n e within number =
      let queue : queue_at core n ≡ queue_in core p = ap (queue_at core) (sym number) ∙ queue_found core apart p within in
      sym (put_queue-at core apart p within (queue_in core p ++ e ∷ []))
      ∙ ap (λ (k : ℕ). put_queue core k (queue_in core p ++ e ∷ [])) number
      ∙ ap (λ (q : List Event). put_queue core n (q ++ e ∷ [])) (sym queue)

  pub room_at : (p n : ℕ) → p < length core.rows → (slot_in core p).number ≡ n → IfSome (row_in core.rows n) (λ row. length row.queue < 64) → length (queue_in core p) < 64
  room_at p n within number room =
      let P : Option ThreadRow → Type 0 = λ o. IfSome o (λ row. length row.queue < 64) in
      subst P (ap (row_in core.rows) (sym number) ∙ row_found core apart p within) room

unput : (rows : List ThreadRow) (n : ℕ) (change : ThreadRow → ThreadRow) → slot_of (row_in rows n) ≡ None → map (at_number n change) rows ≡ rows
unput [] n change none = refl
unput (row ∷ rows) n change none = elim (cases_eq row.slot.number n) as (λ _. map (at_number n change) (row ∷ rows) ≡ row ∷ rows) [
  | inl same ↦ absurd (let found : slot_of (row_in (row ∷ rows) n) ≡ Some row.slot = rw (eq-eqb row.slot.number n same) refl in cc (found, none))
  | inr other ↦ rw (ne_eqb row.slot.number n other) (ap (λ (rs : List ThreadRow). row ∷ rs) (unput rows n change (rw (ne_eqb row.slot.number n other) at none)))
]

pub event_unput : (core : Core) (n : ℕ) (q : List Event) → slot_at core n ≡ None → core ≡ put_queue core n q
unfolding put_queue slot_at
event_unput core n q none = ap (λ (rows : List ThreadRow). record core { rows = rows }) (sym (unput core.rows n (λ row. record row { queue = q }) none))

-- 2. A list of events.

events_for-append : (n : ℕ) (xs ys : List (ℕ × Event)) → events_for n (xs ++ ys) ≡ events_for n xs ++ events_for n ys
events_for-append n [] ys = refl
events_for-append n (x ∷ xs) ys = by (eqb x.0 n) (events_for-append n xs ys)
  where
    by : (b : Bool) → events_for n (xs ++ ys) ≡ events_for n xs ++ events_for n ys
        → cond b (x.1 ∷ events_for n (xs ++ ys)) (events_for n (xs ++ ys)) ≡ cond b (x.1 ∷ events_for n xs)
        (events_for n xs) ++ events_for n ys
    by true rest = ap (λ (es : List Event). x.1 ∷ es) rest
    by false rest = rest

events_for-same : (n : ℕ) (e : Event) → events_for n ((n, e) ∷ []) ≡ e ∷ []
events_for-same n e = rw (eq-eqb n n refl) refl

events_for-other : (n k : ℕ) (e : Event) → k ≢ n → events_for n ((k, e) ∷ []) ≡ []
events_for-other n k e other = rw (ne_eqb k n other) refl

module _ (xs : List (ℕ × Event)) (n : ℕ) (e : Event) where
  abbrev more : List (ℕ × Event)
  more = xs ++ (n, e) ∷ []

  more_here : events_for n more ≡ events_for n xs ++ e ∷ []
  more_here = events_for-append n xs ((n, e) ∷ []) ∙ ap (λ (es : List Event). events_for n xs ++ es) (events_for-same n e)

  more_other : (k : ℕ) → k ≢ n → events_for k more ≡ events_for k xs
  more_other k other = events_for-append k xs ((n, e) ∷ []) ∙ ap (λ (es : List Event). events_for k xs ++ es)
      (events_for-other k n e (λ same. other (sym same))) ∙ Rattle.std.proofs.lemmas.List.append-nil (events_for k xs)

  queue_is : (slots : List Slot) → (queue_of (row_in (map (row_with xs) slots) n) ≡ events_for n xs) ⊎ AllByRecursion (λ (s : Slot). s.number ≢ n) slots
  queue_is [] = inr tt
  queue_is (s ∷ slots) = elim (cases_eq s.number n) as (λ _. (queue_of (row_in (map (row_with xs) (s ∷ slots)) n) ≡ events_for n xs) ⊎ AllByRecursion (λ (t : Slot). t.number ≢ n) (s ∷ slots)) [
    | inl same ↦ inl (rw (eq-eqb s.number n same) (ap (λ (k : ℕ). events_for k xs) same))
    | inr other ↦ elim (queue_is slots) as (λ _. (queue_of (row_in (map (row_with xs) (s ∷ slots)) n) ≡ events_for n xs) ⊎ AllByRecursion (λ (t : Slot). t.number ≢ n) (s ∷ slots)) [
      | inl found ↦ inl (rw (ne_eqb s.number n other) found)
      | inr none ↦ inr (other, none)
    ]
  ]

  rows_put : (q : List Event) → q ≡ events_for n xs ++ e ∷ [] → (slots : List Slot) → map (at_number n (λ row. record row { queue = q })) (map (row_with xs) slots) ≡ map (row_with more) slots
  rows_put q is [] = refl
  rows_put q is (s ∷ slots) = elim (cases_eq s.number n) as (λ _. map (at_number n (λ row. record row { queue = q })) (map (row_with xs) (s ∷ slots)) ≡ map (row_with more) (s ∷ slots)) [
    | inl same ↦ rw (eq-eqb s.number n same, rows_put q is slots)
        (ap (λ (es : List Event). record { slot = s; queue = es } ∷ map (row_with more) slots)
        (is ∙ sym more_here ∙ ap (λ (k : ℕ). events_for k more) (sym same)))
    | inr other ↦ rw (ne_eqb s.number n other, rows_put q is slots) (ap (λ (es : List Event). record { slot = s; queue = es } ∷ map (row_with more) slots) (sym (more_other s.number other)))
  ]

  rows_unput : (q : List Event) (slots : List Slot) → AllByRecursion (λ (s : Slot). s.number ≢ n) slots
      → map (at_number n (λ row. record row { queue = q })) (map (row_with xs) slots) ≡ map (row_with more) slots
  rows_unput q [] none = refl
  rows_unput q (s ∷ slots) none = rw (ne_eqb s.number n none.0, rows_unput q slots none.1)
      (ap (λ (es : List Event). record { slot = s; queue = es } ∷ map (row_with more) slots)
      (sym (more_other s.number none.0)))

  -- one more event in its queue
  pub event_more : (core : Core) (slots : List Slot) → let before = record core { rows = map (row_with xs) slots } in
      put_queue before n (queue_at before n ++ e ∷ []) ≡ record core { rows = map (row_with more) slots }
  unfolding put_queue queue_at
  event_more core slots =
      let q : List Event = queue_of (row_in (map (row_with xs) slots) n) ++ e ∷ [] in
      ap (λ (rows : List ThreadRow). record core { rows = rows })
      (elim (queue_is slots) as (λ _. map (at_number n (λ row. record row { queue = q })) (map (row_with xs) slots) ≡ map (row_with more) slots) [
        | inl found ↦ rows_put q (ap (λ (es : List Event). es ++ e ∷ []) found) slots
        | inr none ↦ rows_unput q slots none
      ])

  -- its queue has room
  pub event_room : (ys : List (ℕ × Event)) (slots : List Slot)
      → AllByRecursion (λ (s : Slot). length (events_for s.number (more ++ ys)) ≤ 64) slots
      → IfSome (row_in (map (row_with xs) slots) n) (λ row. length row.queue < 64)
  event_room ys [] few = tt
  event_room ys (s ∷ slots) few = elim (cases_eq s.number n) as (λ _. IfSome (row_in (map (row_with xs) (s ∷ slots)) n) (λ row. length row.queue < 64)) [
    | inl same ↦
        let some : length (events_for n (more ++ ys)) ≤ 64 = let one = few.0 in omega (arith, ap (λ (k : ℕ). length (events_for k (more ++ ys))) same) in
        let here : length (events_for s.number xs) < 64 = omega (
          arith,
          some,
          ap length (events_for-append n more ys),
          length-append (events_for n more) (events_for n ys),
          ap length more_here,
          length-append (events_for n xs)
              (e ∷ []),
          ap (λ (k : ℕ). length (events_for k xs)) same,
        ) in
        rw (eq-eqb s.number n same) here
    | inr other ↦ rw (ne_eqb s.number n other) (event_room ys slots few.1)
  ]

-- the queue of a slot that is there
pub queue-with : (xs : List (ℕ × Event)) (n : ℕ) (slots : List Slot) (s : Slot)
    → slot_of (row_in (map (row_with xs) slots) n) ≡ Some s → queue_of (row_in (map (row_with xs) slots) n) ≡ events_for
    n xs
queue-with xs n [] s is = cc
queue-with xs n (t ∷ slots) s is = elim (cases_eq t.number n) as (λ _. queue_of (row_in (map (row_with xs) (t ∷ slots)) n) ≡ events_for n xs) [
  | inl same ↦ rw (eq-eqb t.number n same) (ap (λ (k : ℕ). events_for k xs) same)
  | inr other ↦
      let later : slot_of (row_in (map (row_with xs) slots) n) ≡ Some s = rw (ne_eqb t.number n other) at is in
      rw (ne_eqb t.number n other) (queue-with xs n slots s later)
]

pub slots-with : (xs : List (ℕ × Event)) (slots : List Slot) → map (λ (row : ThreadRow). row.slot) (map (row_with xs) slots) ≡ slots
slots-with xs [] = refl
slots-with xs (s ∷ slots) = ap (λ (ss : List Slot). s ∷ ss) (slots-with xs slots)

pub slots-alone : (slots : List Slot) → map (λ (row : ThreadRow). row.slot) (map row_alone slots) ≡ slots
slots-alone [] = refl
slots-alone (s ∷ slots) = ap (λ (ss : List Slot). s ∷ ss) (slots-alone slots)

-- 3. Rows and outputs in a front that grows.

pub front_more : {A B : Type 0} (f : A → B) (xs : List A) (ys : List B) (i : ℕ) (d : A) (b : B) → i < length xs
    → i < length ys → set (map f (take i xs) ++ drop i ys) i (f (get_or xs i d)) ≡ map f (take (i + 1) xs) ++ drop
    (i + 1) ys
front_more f xs ys i d b within inside =
    let long : length (map f (take i xs)) ≡ i = length-map (take i xs) f ∙ length-take-le i xs (omega arith) in
    ap (λ rest. set (map f (take i xs) ++ rest) i (f (get_or xs i d))) (drop_more ys i b inside)
    ∙ set_at (map f (take i xs)) (get_or ys i b) (drop (i + 1) ys) (f (get_or xs i d)) i long
    ∙ sym (ap (λ front. map f front ++ drop (i + 1) ys) (take_more xs i d within)
    ∙ ap (λ front. front ++ drop (i + 1) ys) (map_push f (take i xs) (get_or xs i d))
    ∙ append_assoc (map f (take i xs)) (f (get_or xs i d) ∷ []) (drop (i + 1) ys))

-- what stands next behind the front
pub front_next : {B : Type 0} (front ys : List B) (i : ℕ) (d : B) → length front ≡ i → i < length ys → get_or (front ++ drop i ys) i d ≡ get_or ys i d
front_next front ys i d long inside =
    ap (λ rest. get_or (front ++ rest) i d) (drop_more ys i d inside)
    ∙ ap (λ (k : ℕ). get_or (front ++ get_or ys i d ∷ drop (i + 1) ys) k d) (sym long)
    ∙ get_or-append_seam front (get_or ys i d) (drop (i + 1) ys) d

pub nothing_more : (outputs : List (List ℕ)) (i : ℕ) → i < length outputs → set (replicate i [] ++ drop i outputs) i [] ≡ replicate (i + 1) [] ++ drop (i + 1) outputs
nothing_more outputs i inside =
    ap (λ (rest : List (List ℕ)). set (replicate i [] ++ rest) i []) (drop_more outputs i [] inside)
    ∙ set_at (replicate i []) (get_or outputs i []) (drop (i + 1) outputs) [] i (length-replicate {A = List ℕ} i [])
    ∙ sym (ap (λ (front : List (List ℕ)). front ++ drop (i + 1) outputs) (sym (replicate_more i [])) ∙ append_assoc (replicate i []) ([] ∷ []) (drop (i + 1) outputs))

-- 4. The parts of a core.

module _ (version : ℕ) (split : Bool) (slots : List Slot) (events : List (ℕ × Event)) (outputs : List Output) (whole : IsCore (core_of version split slots events outputs)) where
  abbrev core : Core
  core = core_of version split slots events outputs

  pub slots_are : slots_of core ≡ slots
  slots_are = slots-with events slots

  pub parts_room : AllByRecursion (λ (s : Slot). length (events_for s.number events) ≤ 64) slots
  unfolding slot_at queue_at
  parts_room = subst (AllByRecursion (λ (s : Slot). length (events_for s.number events) ≤ 64)) slots_are
      (each_map (λ (s : Slot). slot_at core s.number ≡ Some s) (λ (s : Slot). length (events_for s.number events) ≤ 64)
      (λ s found. omega (arith, queue_short core whole.matched s.number whole.formed, ap length (queue-with events s.number slots s found)))
      (slots_of core) (slots_found core whole.formed.rising))

  pub parts_short : AllByRecursion (λ (o : Output). output_of core o.group ≡ o.bytes) outputs → AllByRecursion (λ (o : Output). length o.bytes ≤ 65536) outputs
  parts_short given = each_map (λ (o : Output). output_of core o.group ≡ o.bytes)
      (λ (o : Output). length o.bytes ≤ 65536) (λ o is. omega (arith, output_short core whole o.group, ap length is))
      outputs given
