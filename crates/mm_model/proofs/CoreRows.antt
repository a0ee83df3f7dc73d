-- What stands where in a core after a slot, a queue or an output was put.
use Rattle.std.proofs.Common.{◌≡◌, ◌≢◌, ℕ, zero, suc, ◌+◌, ◌<◌, ◌≤◌, inl, inr, Bool, true, false, ◌||◌, nat_eq}
use Rattle.std.proofs.Common.{if◌then◌else◌, List, [], ◌∷◌, ◌++◌, length, map, Option, Some, None, refl, sym, ap, ◌∙◌}
use Rattle.std.proofs.{Common.{subst, arith, eq-eqb, slice_index_or, slice_set}, lemmas.Bool.{cases_eq, ne_eqb}}
use Rattle.std.specs.Prelude.{option_map, Contains, slice_index}
use Rattle.std.specs.List.{AllByRecursion, list_any, Sorted.IsStrictlyIncreasing}
use Rattle.mm_model.specs.{declared.event.Event.Event, Slot.Slot}
use Rattle.mm_model.specs.State.{ThreadRow, Core, row_in, slot_of, queue_of, slot_at, queue_at, at_number, put_slot}
use Rattle.mm_model.specs.{State.put_queue, Image.slot_limit, Groups.has_group, Spelling.{numbers_of, IsOther}}
use Rattle.mm_model.specs.Fits.{slots_of, identity_of, IsOfVersion}

-- 1. Lists.

pub each_map : {A : Type 0} (P Q : A → Type 0) → ((x : A) → P x → Q x) → (xs : List A) → AllByRecursion P xs → AllByRecursion Q xs
each_map P Q f [] h = tt
each_map P Q f (x ∷ xs) h = (f x h.0, each_map P Q f xs h.1)

pub each_both : {A : Type 0} (P Q R : A → Type 0) → ((x : A) → P x → Q x → R x) → (xs : List A) → AllByRecursion P xs → AllByRecursion Q xs → AllByRecursion R xs
each_both P Q R f [] h k = tt
each_both P Q R f (x ∷ xs) h k = (f x h.0 k.0, each_both P Q R f xs h.1 k.1)

pub each_push : {A : Type 0} (P : A → Type 0) (xs : List A) (y : A) → AllByRecursion P xs → P y → AllByRecursion P (xs ++ y ∷ [])
each_push P [] y h p = (p, tt)
each_push P (x ∷ xs) y h p = (h.0, each_push P xs y h.1 p)

pub each_set : {A : Type 0} (P : A → Type 0) (xs : List A) (n : ℕ) (y : A) → AllByRecursion P xs → P y → AllByRecursion P (slice_set xs n y)
each_set P [] n y h p = tt
each_set P (x ∷ xs) zero y h p = (p, h.1)
each_set P (x ∷ xs) (suc n) y h p = (h.0, each_set P xs n y h.1 p)

pub each_get : {A : Type 0} (P : A → Type 0) (xs : List A) (n : ℕ) (d : A) → AllByRecursion P xs → n < length xs → P (slice_index_or xs n d)
each_get P [] n d h lt = absurd (omega arith)
each_get P (x ∷ xs) zero d h lt = h.0
each_get P (x ∷ xs) (suc n) d h lt = each_get P xs n d h.1 (omega arith)

pub each_contained : {A : Type 0} (P : A → Type 0) (xs : List A) (x : A) → AllByRecursion P xs → Contains xs x → P x
each_contained P xs x h c = subst P c.2 (each_get P xs c.0 x h c.1)

-- a version has at most 64 numbers
pub slot_limit-few : (version : ℕ) → slot_limit version ≤ 64
slot_limit-few version = by (nat_eq version 1)
  where
    by : (b : Bool) → (if b then 16 else 64) ≤ 64
    by true = omega arith
    by false = omega arith

-- 2. Numbers that rise.

pub rest_rises : (x : ℕ) (xs : List ℕ) → IsStrictlyIncreasing (x ∷ xs) → IsStrictlyIncreasing xs
rest_rises x xs h k lt =
    let next : suc k + 1 ≡ suc (k + 1) = omega arith in
    let before : slice_index (x ∷ xs) (suc k) < slice_index (x ∷ xs) (suc k + 1) = h (suc k) (omega arith) in
    rw next at before

first_below : (x y : ℕ) (ys : List ℕ) → IsStrictlyIncreasing (x ∷ y ∷ ys) → x < y
first_below x y ys h = h 0 (omega arith)

pub above_first : (x : ℕ) (xs : List ℕ) → IsStrictlyIncreasing (x ∷ xs) → AllByRecursion (λ y. x < y) xs
above_first x [] h = tt
above_first x (y ∷ ys) h =
    let low = first_below x y ys h in
    (low, each_map (λ z. y < z) (λ z. x < z) (λ z up. omega arith) ys (above_first y ys (rest_rises x (y ∷ ys) h)))

-- 3. Rows by number.

pub row_here : (row : ThreadRow) (rows : List ThreadRow) (n : ℕ) → row.slot.number ≡ n → row_in (row ∷ rows) n ≡ Some row
row_here row rows n e = ap (λ b. if b then Some row else row_in rows n) (eq-eqb row.slot.number n e)

pub row_later : (row : ThreadRow) (rows : List ThreadRow) (n : ℕ) → row.slot.number ≢ n → row_in (row ∷ rows) n ≡ row_in rows n
row_later row rows n ne = ap (λ b. if b then Some row else row_in rows n) (ne_eqb row.slot.number n ne)

module _ (n : ℕ) (f : ThreadRow → ThreadRow) where
  at_here : (row : ThreadRow) → row.slot.number ≡ n → at_number n f row ≡ f row
  at_here row e = ap (λ b. if b then f row else row) (eq-eqb row.slot.number n e)

  at_other : (row : ThreadRow) → row.slot.number ≢ n → at_number n f row ≡ row
  at_other row ne = ap (λ b. if b then f row else row) (ne_eqb row.slot.number n ne)

  module _ (keeps : (row : ThreadRow) → row.slot.number ≡ n → (f row).slot.number ≡ n) where
    row_changed : (rows : List ThreadRow) → row_in (map (at_number n f) rows) n ≡ option_map f (row_in rows n)
    row_changed [] = refl
    row_changed (row ∷ rows) = elim (cases_eq row.slot.number n) [
      | inl e ↦
          ap (λ r. row_in (r ∷ map (at_number n f) rows) n) (at_here row e)
          ∙ row_here (f row) (map (at_number n f) rows) n (keeps row e)
          ∙ sym (ap (option_map f) (row_here row rows n e))
      | inr ne ↦
          ap (λ r. row_in (r ∷ map (at_number n f) rows) n) (at_other row ne)
          ∙ row_later row (map (at_number n f) rows) n ne
          ∙ row_changed rows
          ∙ sym (ap (option_map f) (row_later row rows n ne))
    ]

    row_kept : (rows : List ThreadRow) (m : ℕ) → m ≢ n → row_in (map (at_number n f) rows) m ≡ row_in rows m
    row_kept [] m other = refl
    row_kept (row ∷ rows) m other = elim (cases_eq row.slot.number n) [
      | inl e ↦
          let first : (f row).slot.number ≢ m = λ s. other (sym s ∙ keeps row e) in
          let was : row.slot.number ≢ m = λ s. other (sym s ∙ e) in
          ap (λ r. row_in (r ∷ map (at_number n f) rows) m) (at_here row e)
          ∙ row_later (f row) (map (at_number n f) rows) m first
          ∙ row_kept rows m other
          ∙ sym (row_later row rows m was)
      | inr ne ↦
          ap (λ r. row_in (r ∷ map (at_number n f) rows) m) (at_other row ne)
          ∙ ap (λ o. if nat_eq row.slot.number m then Some row else o) (row_kept rows m other)
    ]

-- 4. Slots and queues after a slot was put.

number_in : (rows : List ThreadRow) (n : ℕ) (s : Slot) → slot_of (row_in rows n) ≡ Some s → s.number ≡ n
number_in [] n s is = cc
number_in (row ∷ rows) n s is = elim (cases_eq row.slot.number n) [
  | inl e ↦
      let here : ◌≡◌ {A = Option Slot} (Some row.slot) (Some s) = sym (ap slot_of (row_here row rows n e)) ∙ is in
      let same : row.slot ≡ s = cc in
      sym (ap (λ (z : Slot). z.number) same) ∙ e
  | inr ne ↦ number_in rows n s (sym (ap slot_of (row_later row rows n ne)) ∙ is)
]

-- a slot stands at its number
pub slot_at-number : (core : Core) (n : ℕ) (s : Slot) → slot_at core n ≡ Some s → s.number ≡ n
unfolding slot_at
slot_at-number core n s is = number_in core.rows n s is

slot_changed : (s t : Slot) (o : Option ThreadRow) → slot_of o ≡ Some t → slot_of (option_map (λ (row : ThreadRow). record row { slot = s }) o) ≡ Some s
slot_changed s t None is = cc
slot_changed s t (Some row) is = refl

queue_unchanged : (s : Slot) (o : Option ThreadRow) → queue_of (option_map (λ (row : ThreadRow). record row { slot = s }) o) ≡ queue_of o
queue_unchanged s None = refl
queue_unchanged s (Some row) = refl

pub slot_at-put_same : (core : Core) (s t : Slot) → slot_at core s.number ≡ Some t → slot_at (put_slot core s) s.number ≡ Some s
unfolding slot_at put_slot
slot_at-put_same core s t is =
    ap slot_of (row_changed s.number (λ (row : ThreadRow). record row { slot = s }) (λ row e. refl) core.rows)
    ∙ slot_changed s t (row_in core.rows s.number) is

pub slot_at-put_other : (core : Core) (s : Slot) (n : ℕ) → n ≢ s.number → slot_at (put_slot core s) n ≡ slot_at core n
unfolding slot_at put_slot
slot_at-put_other core s n ne = ap slot_of (row_kept s.number (λ (row : ThreadRow). record row { slot = s }) (λ row e. refl) core.rows n ne)

pub queue_at-put_slot : (core : Core) (s : Slot) (n : ℕ) → queue_at (put_slot core s) n ≡ queue_at core n
unfolding queue_at put_slot
queue_at-put_slot core s n = elim (cases_eq n s.number) [
  | inl e ↦
      ap (λ k. queue_of (row_in (map (at_number s.number (λ (row : ThreadRow). record row { slot = s })) core.rows) k)) e
      ∙ ap queue_of (row_changed s.number (λ (row : ThreadRow). record row { slot = s }) (λ row e. refl) core.rows)
      ∙ queue_unchanged s (row_in core.rows s.number)
      ∙ ap (λ k. queue_of (row_in core.rows k)) (sym e)
  | inr ne ↦ ap queue_of (row_kept s.number (λ (row : ThreadRow). record row { slot = s }) (λ row e. refl) core.rows n ne)
]

-- what stands at a number after a slot was put: that slot, or what stood there
pub data AfterPut (core : Core) (s : Slot) (n : ℕ) (t : Slot) : Type 0 where
  here : n ≡ s.number → t ≡ s → AfterPut core s n t
  there : n ≢ s.number → slot_at core n ≡ Some t → AfterPut core s n t

pub put_slot-cases : (core : Core) (s old : Slot) (n : ℕ) (t : Slot) → slot_at core s.number ≡ Some old → slot_at (put_slot core s) n ≡ Some t → AfterPut core s n t
put_slot-cases core s old n t was is = elim (cases_eq n s.number) [
  | inl e ↦
      let two : ◌≡◌ {A = Option Slot} (Some t) (Some s) = sym is ∙ ap (slot_at (put_slot core s)) e ∙ slot_at-put_same core s old was in
      here e cc
  | inr ne ↦ there ne (sym (slot_at-put_other core s n ne) ∙ is)
]

-- 5. And after a queue was put.

slot_unchanged : (q : List Event) (o : Option ThreadRow) → slot_of (option_map (λ (row : ThreadRow). record row { queue = q }) o) ≡ slot_of o
slot_unchanged q None = refl
slot_unchanged q (Some row) = refl

queue_changed : (q : List Event) (t : Slot) (o : Option ThreadRow) → slot_of o ≡ Some t → queue_of (option_map (λ (row : ThreadRow). record row { queue = q }) o) ≡ q
queue_changed q t None is = cc
queue_changed q t (Some row) is = refl

pub slot_at-put_queue : (core : Core) (n : ℕ) (q : List Event) (m : ℕ) → slot_at (put_queue core n q) m ≡ slot_at core m
unfolding slot_at put_queue
slot_at-put_queue core n q m = elim (cases_eq m n) [
  | inl e ↦
      ap (λ k. slot_of (row_in (map (at_number n (λ (row : ThreadRow). record row { queue = q })) core.rows) k)) e
      ∙ ap slot_of (row_changed n (λ (row : ThreadRow). record row { queue = q }) (λ row e. e) core.rows)
      ∙ slot_unchanged q (row_in core.rows n)
      ∙ ap (λ k. slot_of (row_in core.rows k)) (sym e)
  | inr ne ↦ ap slot_of (row_kept n (λ (row : ThreadRow). record row { queue = q }) (λ row e. e) core.rows m ne)
]

pub queue_at-put_same : (core : Core) (n : ℕ) (q : List Event) (t : Slot) → slot_at core n ≡ Some t → queue_at (put_queue core n q) n ≡ q
unfolding slot_at queue_at put_queue
queue_at-put_same core n q t is =
    ap queue_of (row_changed n (λ (row : ThreadRow). record row { queue = q }) (λ row e. e) core.rows)
    ∙ queue_changed q t (row_in core.rows n) is

pub queue_at-put_other : (core : Core) (n : ℕ) (q : List Event) (m : ℕ) → m ≢ n → queue_at (put_queue core n q) m ≡ queue_at core m
unfolding queue_at put_queue
queue_at-put_other core n q m ne = ap queue_of (row_kept n (λ (row : ThreadRow). record row { queue = q }) (λ row e. e) core.rows m ne)

slots_kept : (n : ℕ) (q : List Event) (rows : List ThreadRow)
    → map (λ (row : ThreadRow). row.slot) (map (at_number n (λ (row : ThreadRow). record row { queue = q })) rows) ≡ map (λ (row : ThreadRow). row.slot) rows
slots_kept n q [] = refl
slots_kept n q (row ∷ rows) = elim (cases_eq row.slot.number n) [
  | inl e ↦
      ap (λ (r : ThreadRow). r.slot ∷ map (λ (x : ThreadRow). x.slot) (map (at_number n (λ (x : ThreadRow). record x { queue = q })) rows))
      (at_here n (λ (x : ThreadRow). record x { queue = q }) row e)
      ∙ ap (λ (xs : List Slot). row.slot ∷ xs) (slots_kept n q rows)
  | inr ne ↦
      ap (λ (r : ThreadRow). r.slot ∷ map (λ (x : ThreadRow). x.slot) (map (at_number n (λ (x : ThreadRow). record x { queue = q })) rows))
      (at_other n (λ (x : ThreadRow). record x { queue = q }) row ne)
      ∙ ap (λ (xs : List Slot). row.slot ∷ xs) (slots_kept n q rows)
]

pub slots_of-put_queue : (core : Core) (n : ℕ) (q : List Event) → slots_of (put_queue core n q) ≡ slots_of core
unfolding put_queue
slots_of-put_queue core n q = slots_kept n q core.rows

-- a slot and a queue may be put in either order
both_put : (n : ℕ) (q : List Event) (s : Slot) (row : ThreadRow)
    → at_number n (λ (r : ThreadRow). record r { queue = q }) (at_number s.number (λ (r : ThreadRow). record r { slot = s }) row)
    ≡ at_number s.number (λ (r : ThreadRow). record r { slot = s }) (at_number n (λ (r : ThreadRow). record r { queue = q }) row)
both_put n q s row = elim (cases_eq row.slot.number s.number) [
  | inl e ↦
      ap (λ (r : ThreadRow). at_number n (λ (x : ThreadRow). record x { queue = q }) r) (at_here s.number (λ (x : ThreadRow). record x { slot = s }) row e)
      ∙ elim (cases_eq row.slot.number n) [
        | inl d ↦
            at_here n (λ (x : ThreadRow). record x { queue = q }) (record row { slot = s }) (sym e ∙ d)
            ∙ sym (ap (λ (r : ThreadRow). at_number s.number (λ (x : ThreadRow). record x { slot = s }) r)
            (at_here n (λ (x : ThreadRow). record x { queue = q }) row d) ∙ at_here s.number
            (λ (x : ThreadRow). record x { slot = s }) (record row { queue = q }) e)
        | inr nd ↦
            at_other n (λ (x : ThreadRow). record x { queue = q }) (record row { slot = s }) (λ d. nd (e ∙ d))
            ∙ sym (ap (λ (r : ThreadRow). at_number s.number (λ (x : ThreadRow). record x { slot = s }) r)
            (at_other n (λ (x : ThreadRow). record x { queue = q }) row nd) ∙ at_here s.number
            (λ (x : ThreadRow). record x { slot = s }) row e)
      ]
  | inr ne ↦
      ap (λ (r : ThreadRow). at_number n (λ (x : ThreadRow). record x { queue = q }) r) (at_other s.number (λ (x : ThreadRow). record x { slot = s }) row ne)
      ∙ elim (cases_eq row.slot.number n) [
        | inl d ↦
            at_here n (λ (x : ThreadRow). record x { queue = q }) row d
            ∙ sym (ap (λ (r : ThreadRow). at_number s.number (λ (x : ThreadRow). record x { slot = s }) r)
            (at_here n (λ (x : ThreadRow). record x { queue = q }) row d) ∙ at_other s.number
            (λ (x : ThreadRow). record x { slot = s }) (record row { queue = q }) ne)
        | inr nd ↦
            at_other n (λ (x : ThreadRow). record x { queue = q }) row nd
            ∙ sym (ap (λ (r : ThreadRow). at_number s.number (λ (x : ThreadRow). record x { slot = s }) r)
            (at_other n (λ (x : ThreadRow). record x { queue = q }) row nd) ∙ at_other s.number
            (λ (x : ThreadRow). record x { slot = s }) row ne)
      ]
]

both_put_all : (n : ℕ) (q : List Event) (s : Slot) (rows : List ThreadRow)
    → map (at_number n (λ (r : ThreadRow). record r { queue = q })) (map (at_number s.number (λ (r : ThreadRow). record r { slot = s })) rows)
    ≡ map (at_number s.number (λ (r : ThreadRow). record r { slot = s })) (map (at_number n (λ (r : ThreadRow). record r { queue = q })) rows)
both_put_all n q s [] = refl
both_put_all n q s (row ∷ rows) =
    let first = both_put n q s row in
    let rest = both_put_all n q s rows in
    cc

pub put_queue-put_slot : (core : Core) (s : Slot) (n : ℕ) (q : List Event) → put_queue (put_slot core s) n q ≡ put_slot (put_queue core n q) s
unfolding put_queue put_slot
put_queue-put_slot core s n q = ap (λ (rows : List ThreadRow). record core { rows = rows }) (both_put_all n q s core.rows)

-- 6. Slots in the list, and by their numbers.

abbrev pub Rises : Core → Type 0
Rises core = IsStrictlyIncreasing (numbers_of (slots_of core))

in_later : (row : ThreadRow) (rows : List ThreadRow) (s : Slot) → row.slot.number < s.number → slot_of (row_in rows s.number) ≡ Some s → slot_of (row_in (row ∷ rows) s.number) ≡ Some s
in_later row rows s lt is = let ne : row.slot.number ≢ s.number = omega arith in ap slot_of (row_later row rows s.number ne) ∙ is

pub numbers_above : (x : ℕ) (slots : List Slot) → AllByRecursion (λ y. x < y) (numbers_of slots) → AllByRecursion (λ (s : Slot). x < s.number) slots
numbers_above x [] h = tt
numbers_above x (s ∷ slots) h = (h.0, numbers_above x slots h.1)

found_all : (rows : List ThreadRow) → IsStrictlyIncreasing (numbers_of (map (λ (row : ThreadRow). row.slot) rows))
    → AllByRecursion (λ (s : Slot). slot_of (row_in rows s.number) ≡ Some s) (map (λ (row : ThreadRow). row.slot) rows)
found_all [] h = tt
found_all (row ∷ rows) h =
    let slots : List Slot = map (λ (r : ThreadRow). r.slot) rows in
    let rest = found_all rows (rest_rises row.slot.number (numbers_of slots) h) in
    let above = numbers_above row.slot.number slots (above_first row.slot.number (numbers_of slots) h) in (
      ap slot_of (row_here row rows row.slot.number refl),
      each_both (λ (s : Slot). row.slot.number < s.number) (λ (s : Slot). slot_of (row_in rows s.number) ≡ Some s)
          (λ (s : Slot). slot_of (row_in (row ∷ rows) s.number) ≡ Some s) (λ s lt is. in_later row rows s lt is) slots
          above rest,
    )

-- where numbers rise, each slot is found at its number
pub slots_found : (core : Core) → Rises core → AllByRecursion (λ (s : Slot). slot_at core s.number ≡ Some s) (slots_of core)
unfolding slot_at
slots_found core h = found_all core.rows h

-- so what holds of the slot at each number holds of each slot
pub each_slot : (P : Slot → Type 0) (core : Core) → Rises core → ((n : ℕ) (s : Slot) → slot_at core n ≡ Some s → P s) → AllByRecursion P (slots_of core)
each_slot P core h f = each_map (λ (s : Slot). slot_at core s.number ≡ Some s) P (λ s is. f s.number s is) (slots_of core) (slots_found core h)

each_in : (P : Slot → Type 0) (rows : List ThreadRow) (n : ℕ) (s : Slot) → AllByRecursion P (map (λ (row : ThreadRow). row.slot) rows) → slot_of (row_in rows n) ≡ Some s → P s
each_in P [] n s h is = cc
each_in P (row ∷ rows) n s h is = elim (cases_eq row.slot.number n) [
  | inl e ↦
      let here : ◌≡◌ {A = Option Slot} (Some row.slot) (Some s) = sym (ap slot_of (row_here row rows n e)) ∙ is in
      let same : row.slot ≡ s = cc in
      subst P same h.0
  | inr ne ↦ each_in P rows n s h.1 (sym (ap slot_of (row_later row rows n ne)) ∙ is)
]

-- and what holds of each slot holds of the slot at a number
pub slot_has : (P : Slot → Type 0) (core : Core) (n : ℕ) (s : Slot) → AllByRecursion P (slots_of core) → slot_at core n ≡ Some s → P s
unfolding slot_at
slot_has P core n s h is = each_in P core.rows n s h is

contained_in : (rows : List ThreadRow) (n : ℕ) (s : Slot) → slot_of (row_in rows n) ≡ Some s → Contains (map (λ (row : ThreadRow). row.slot) rows) s
contained_in [] n s is = cc
contained_in (row ∷ rows) n s is = elim (cases_eq row.slot.number n) [
  | inl e ↦
      let here : ◌≡◌ {A = Option Slot} (Some row.slot) (Some s) = sym (ap slot_of (row_here row rows n e)) ∙ is in
      let same : row.slot ≡ s = cc in
      (0, omega arith, same)
  | inr ne ↦
      let rest = contained_in rows n s (sym (ap slot_of (row_later row rows n ne)) ∙ is) in
      (suc rest.0, omega (arith, rest.1), rest.2)
]

-- the slot at a number is one of the slots
pub slot_contained : (core : Core) (n : ℕ) (s : Slot) → slot_at core n ≡ Some s → Contains (slots_of core) s
unfolding slot_at
slot_contained core n s is = contained_in core.rows n s is

-- another slot is the slot at its number
pub other_at : (core : Core) → Rises core → (n h : ℕ) → IsOther (slots_of core) n h → (h ≢ n) × ((s : Slot) × (slot_at core h ≡ Some s))
other_at core up n h o =
    let s : Slot = o.1.0 in
    let found : slot_at core s.number ≡ Some s = each_contained (λ (z : Slot). slot_at core z.number ≡ Some z) (slots_of core) s (slots_found core up) o.1.1 in
    (o.0, (s, ap (slot_at core) (sym o.1.2) ∙ found))

pub other_in : (core : Core) (n h : ℕ) (s : Slot) → h ≢ n → slot_at core h ≡ Some s → IsOther (slots_of core) n h
other_in core n h s ne is = (ne, (s, slot_contained core h s is, slot_at-number core h s is))

-- 7. What never changes of the slots tells which there are.

abbrev pub identities_of : Core → List (ℕ × ℕ × Option ℕ)
identities_of core = map identity_of (slots_of core)

pub numbers_by : (xs ys : List Slot) → map identity_of xs ≡ map identity_of ys → numbers_of xs ≡ numbers_of ys
numbers_by xs ys e = sym (of_identities xs) ∙ ap (map (λ (i : ℕ × ℕ × Option ℕ). i.0)) e ∙ of_identities ys
  where
    of_identities : (slots : List Slot) → map (λ (i : ℕ × ℕ × Option ℕ). i.0) (map identity_of slots) ≡ numbers_of slots
    of_identities [] = refl
    of_identities (s ∷ slots) = ap (λ (ns : List ℕ). s.number ∷ ns) (of_identities slots)

pub into_map : {A B : Type 0} (P : B → Type 0) (f : A → B) (xs : List A) → AllByRecursion (λ x. P (f x)) xs → AllByRecursion P (map f xs)
into_map P f [] h = tt
into_map P f (x ∷ xs) h = (h.0, into_map P f xs h.1)

pub out_of_map : {A B : Type 0} (P : B → Type 0) (f : A → B) (xs : List A) → AllByRecursion P (map f xs) → AllByRecursion (λ x. P (f x)) xs
out_of_map P f [] h = tt
out_of_map P f (x ∷ xs) h = (h.0, out_of_map P f xs h.1)

-- what holds of the identities of slots holds of those of others that are the same
pub by_identities : (P : ℕ × ℕ × Option ℕ → Type 0) (xs ys : List Slot) → map identity_of xs ≡ map identity_of ys
    → AllByRecursion (λ (s : Slot). P (identity_of s)) ys → AllByRecursion (λ (s : Slot). P (identity_of s)) xs
by_identities P xs ys same h = out_of_map P identity_of xs (subst (AllByRecursion P) (sym same) (into_map P identity_of ys h))

pub of_version_by : (version : ℕ) (xs ys : List Slot) → map identity_of xs ≡ map identity_of ys → AllByRecursion (IsOfVersion version) ys → AllByRecursion (IsOfVersion version) xs
of_version_by version xs ys same h =
    let Low : ℕ × ℕ × Option ℕ → Type 0 = λ i. (i.0 < slot_limit version) × (i.1 < slot_limit version) in
    each_map (λ (s : Slot). Low (identity_of s)) (IsOfVersion version) (λ s low. record { number = low.0; group = low.1 }) xs
    (by_identities Low xs ys same (each_map (IsOfVersion version) (λ (s : Slot). Low (identity_of s)) (λ s k. (k.number, k.group)) ys h))

pub rises_by : (core after : Core) → identities_of after ≡ identities_of core → Rises core → Rises after
rises_by core after e h = subst IsStrictlyIncreasing (sym (numbers_by (slots_of after) (slots_of core) e)) h

pub has_group_by : (core after : Core) (g : ℕ) → identities_of after ≡ identities_of core → has_group (slots_of after) g ≡ has_group (slots_of core) g
has_group_by core after g e = sym (of_identities (slots_of after)) ∙ ap (list_any (λ (i : ℕ × ℕ × Option ℕ). nat_eq i.1 g)) e ∙ of_identities (slots_of core)
  where
    of_identities : (slots : List Slot) → list_any (λ (i : ℕ × ℕ × Option ℕ). nat_eq i.1 g) (map identity_of slots) ≡ list_any (λ (s : Slot). nat_eq s.group g) slots
    of_identities [] = refl
    of_identities (s ∷ slots) = ap (λ b. nat_eq s.group g || b) (of_identities slots)

tails : (x y : ℕ × ℕ × Option ℕ) (xs ys : List (ℕ × ℕ × Option ℕ)) → x ∷ xs ≡ y ∷ ys → (x ≡ y) × (xs ≡ ys)
tails x y xs ys e = (cc, cc)

same_in : (rows later : List ThreadRow) (n : ℕ) → map identity_of (map (λ (row : ThreadRow). row.slot) later) ≡ map identity_of (map (λ (row : ThreadRow). row.slot) rows)
    → option_map identity_of (slot_of (row_in later n)) ≡ option_map identity_of (slot_of (row_in rows n))
same_in [] [] n e = refl
same_in [] (l ∷ later) n e = cc
same_in (r ∷ rows) [] n e = cc
same_in (r ∷ rows) (l ∷ later) n e =
    let both = tails (identity_of l.slot) (identity_of r.slot) (map identity_of (map (λ (row : ThreadRow). row.slot) later)) (map identity_of (map (λ (row : ThreadRow). row.slot) rows)) e in
    let same : l.slot.number ≡ r.slot.number = ap (λ (i : ℕ × ℕ × Option ℕ). i.0) both.0 in
    elim (cases_eq r.slot.number n) [
      | inl found ↦
          ap (λ o. option_map identity_of (slot_of o)) (row_here l later n (same ∙ found))
          ∙ ap (λ (i : ℕ × ℕ × Option ℕ). Some i) both.0
          ∙ sym (ap (λ o. option_map identity_of (slot_of o)) (row_here r rows n found))
      | inr ne ↦
          ap (λ o. option_map identity_of (slot_of o)) (row_later l later n (λ h. ne (sym same ∙ h)))
          ∙ same_in rows later n both.1
          ∙ sym (ap (λ o. option_map identity_of (slot_of o)) (row_later r rows n ne))
    ]

pub identity_at : (core after : Core) (n : ℕ) → identities_of after ≡ identities_of core → option_map identity_of (slot_at after n) ≡ option_map identity_of (slot_at core n)
unfolding slot_at
identity_at core after n e = same_in core.rows after.rows n e

-- a slot still stands at its number, with its group and its handler
pub record Stays (core : Core) (n : ℕ) (s : Slot) : Type 0 where
  pub now : Slot
  pub is : slot_at core n ≡ Some now
  pub same : identity_of now ≡ identity_of s

pub stays_by : (core after : Core) (n : ℕ) (s : Slot) → identities_of after ≡ identities_of core → slot_at core n ≡ Some s → Stays after n s
stays_by core after n s e is = found (slot_at after n) refl (identity_at core after n e ∙ ap (option_map identity_of) is)
  where
    found : (o : Option Slot) → slot_at after n ≡ o → option_map identity_of o ≡ Some (identity_of s) → Stays after n s
    found None at same = cc
    found (Some t) at same = record { now = t; is = at; same = cc }

-- a slot that takes the place of one with its number, group and handler changes none of these
identities_in : (s : Slot) (rows : List ThreadRow) → AllByRecursion (λ (t : Slot). t.number ≡ s.number → identity_of t ≡ identity_of s) (map (λ (row : ThreadRow). row.slot) rows)
    → map identity_of (map (λ (row : ThreadRow). row.slot) (map (at_number s.number (λ (row : ThreadRow). record row { slot = s })) rows)) ≡ map identity_of (map (λ (row : ThreadRow). row.slot) rows)
identities_in s [] h = refl
identities_in s (row ∷ rows) h = elim (cases_eq row.slot.number s.number) [
  | inl e ↦
      let first = ap (λ (r : ThreadRow). identity_of r.slot) (at_here s.number (λ (x : ThreadRow). record x { slot = s }) row e) ∙ sym (h.0 e) in
      let rest = identities_in s rows h.1 in
      cc
  | inr ne ↦
      let first = ap (λ (r : ThreadRow). identity_of r.slot) (at_other s.number (λ (x : ThreadRow). record x { slot = s }) row ne) in
      let rest = identities_in s rows h.1 in
      cc
]

pub identities_of-put_slot : (core : Core) (s old : Slot) → Rises core → slot_at core s.number ≡ Some old → identity_of old ≡ identity_of s → identities_of (put_slot core s) ≡ identities_of core
unfolding put_slot
identities_of-put_slot core s old up is same =
    identities_in s core.rows (each_slot (λ (t : Slot). t.number ≡ s.number → identity_of t ≡ identity_of s) core up
    (λ n t at e.
    let two : ◌≡◌ {A = Option Slot} (Some t) (Some old) = sym at ∙ ap (slot_at core) (sym (slot_at-number core n t at) ∙ e) ∙ is in
    let one : t ≡ old = cc in
    ap identity_of one ∙ same))
