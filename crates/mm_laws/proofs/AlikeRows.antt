-- Rows of some groups: where they are found, and after a slot or a queue was put.
use Rattle.std.proofs.Common.{◌≡◌, ℕ, ◌<◌, inl, inr, Bool, true, false, cond, nat_eq, if◌then◌else◌, List, [], ◌∷◌, map}
use Rattle.std.proofs.Common.{Option, Some, None, refl, sym, ap, ◌∙◌, subst, arith, eqb-true}
use Rattle.std.proofs.lemmas.Bool.{both_ways, cases_Bool, cases_eq}
use Rattle.std.specs.List.{AllByRecursion, filter, Sorted.IsStrictlyIncreasing}
use Rattle.mm_model.specs.{declared.event.Event.Event, Slot.Slot}
use Rattle.mm_model.specs.State.{ThreadRow, Core, row_in, slot_of, queue_of, slot_at, queue_at, at_number, put_slot}
use Rattle.mm_model.specs.{State.{put_queue, output_of, put_output}, Fits.identity_of, Image.Image, Effect.Change}
use Rattle.mm_model.specs.{Turn.{with_other, with_out, slot_after}, Reach.Entries.All}
use Rattle.mm_model.proofs.CoreRows.{each_map, above_first, rest_rises, Rises, identities_of, rises_by, stays_by}
use Rattle.mm_model.proofs.CoreRows.{identities_of-put_slot, row_here, row_later, slot_at-number}
use Rattle.mm_model.proofs.{Filters.{filter_takes, filter_drops}, TurnKeeps.changed_from, TurnChanges.changed_identity}
use Rattle.mm_laws.specs.Isolated.{is_row_of}
use Rattle.mm_laws.proofs.{GrantedWords.{row_has, row_of}, GrantedRows.OtherSlot, GrantedTurns.same_slot}

-- 1. Rows of the groups, by number.

abbrev pub mine : (ℕ → Bool) → Core → List ThreadRow
mine c core = filter (is_row_of c) core.rows

-- each row's number is below those of the rows behind it
abbrev Ascends : List ThreadRow → Type 0
Ascends [] = Unit {0}
Ascends (row ∷ rows) = AllByRecursion (λ (x : ThreadRow). row.slot.number < x.slot.number) rows × Ascends rows

pub numbers_above : (n : ℕ) (rows : List ThreadRow) → AllByRecursion (λ y. n < y) (map (λ (s : Slot). s.number) (map (λ (row : ThreadRow). row.slot) rows))
    → AllByRecursion (λ (x : ThreadRow). n < x.slot.number) rows
numbers_above n [] h = tt
numbers_above n (row ∷ rows) h = (h.0, numbers_above n rows h.1)

ascends : (rows : List ThreadRow) → IsStrictlyIncreasing (map (λ (s : Slot). s.number) (map (λ (row : ThreadRow). row.slot) rows)) → Ascends rows
ascends [] h = tt
ascends (row ∷ rows) h =
    let numbers : List ℕ = map (λ (s : Slot). s.number) (map (λ (r : ThreadRow). r.slot) rows) in
    (numbers_above row.slot.number rows (above_first row.slot.number numbers h), ascends rows (rest_rises row.slot.number numbers h))

row_number : (rows : List ThreadRow) (n : ℕ) (row : ThreadRow) → row_in rows n ≡ Some row → row.slot.number ≡ n
row_number [] n row is = cc
row_number (r ∷ rows) n row is = elim (cases_eq r.slot.number n) [
  | inl e ↦ let two : ◌≡◌ {A = Option ThreadRow} (Some r) (Some row) = sym (row_here r rows n e) ∙ is in let same : r ≡ row = cc in sym (ap (λ (x : ThreadRow). x.slot.number) same) ∙ e
  | inr ne ↦ row_number rows n row (sym (row_later r rows n ne) ∙ is)
]

module _ (c : ℕ → Bool) where
  row_kept : (rows : List ThreadRow) (n : ℕ) (row : ThreadRow) → row_in rows n ≡ Some row → is_row_of c row ≡ true → row_in (filter (is_row_of c) rows) n ≡ Some row
  row_kept [] n row is e = cc
  row_kept (r ∷ rows) n row is e = elim (cases_Bool (is_row_of c r)) [
    | inl t ↦ ap (λ l. row_in l n) (filter_takes (is_row_of c) r rows t) ∙ elim (cases_eq r.slot.number n) [
      | inl here ↦ row_here r (filter (is_row_of c) rows) n here ∙ sym (row_here r rows n here) ∙ is
      | inr ne ↦ row_later r (filter (is_row_of c) rows) n ne ∙ row_kept rows n row (sym (row_later r rows n ne) ∙ is) e
    ]
    | inr f ↦ ap (λ l. row_in l n) (filter_drops (is_row_of c) r rows f) ∙ elim (cases_eq r.slot.number n) [
      | inl here ↦ absurd (let two : ◌≡◌ {A = Option ThreadRow} (Some r) (Some row) = sym (row_here r rows n here)
          ∙ is in let same : r ≡ row = cc in both_ways (is_row_of c row) (sym (ap (is_row_of c) same) ∙ f) e)
      | inr ne ↦ row_kept rows n row (sym (row_later r rows n ne) ∙ is) e
    ]
  ]

  each_filtered : (P : ThreadRow → Type 0) (rows : List ThreadRow) → AllByRecursion P rows → AllByRecursion P (filter (is_row_of c) rows)
  each_filtered P [] h = tt
  each_filtered P (row ∷ rows) h = elim (cases_Bool (is_row_of c row)) [
    | inl t ↦ subst (AllByRecursion P) (sym (filter_takes (is_row_of c) row rows t)) (h.0, each_filtered P rows h.1)
    | inr f ↦ subst (AllByRecursion P) (sym (filter_drops (is_row_of c) row rows f)) (each_filtered P rows h.1)
  ]

  row_back : (rows : List ThreadRow) → Ascends rows → (n : ℕ) (row : ThreadRow) → row_in (filter (is_row_of c) rows) n ≡ Some row → row_in rows n ≡ Some row
  row_back [] up n row is = cc
  row_back (r ∷ rows) up n row is = elim (cases_Bool (is_row_of c r)) [
    | inl t ↦
        let at = sym (ap (λ l. row_in l n) (filter_takes (is_row_of c) r rows t)) ∙ is in
        elim (cases_eq r.slot.number n) [
          | inl here ↦ row_here r rows n here ∙ sym (row_here r (filter (is_row_of c) rows) n here) ∙ at
          | inr ne ↦ row_later r rows n ne ∙ row_back rows up.1 n row (sym (row_later r (filter (is_row_of c) rows) n ne) ∙ at)
        ]
    | inr f ↦
        let at = sym (ap (λ l. row_in l n) (filter_drops (is_row_of c) r rows f)) ∙ is in
        let above = row_has (λ (x : ThreadRow). r.slot.number < x.slot.number) (filter (is_row_of c) rows) n row (each_filtered (λ (x : ThreadRow). r.slot.number < x.slot.number) rows up.0) at in
        let number = row_number (filter (is_row_of c) rows) n row at in
        row_later r rows n (λ e. let below : r.slot.number < row.slot.number = above in absurd (omega arith)) ∙ row_back rows up.1 n row at
  ]

  -- where rows of the groups are the same, so are a slot of them and its queue
  pub record SameSlotAt (a b : Core) (n : ℕ) (x : Slot) : Type 0 where
    pub slot : slot_at b n ≡ Some x
    pub queue : queue_at a n ≡ queue_at b n

  pub same_at : (a b : Core) → Rises b → mine c a ≡ mine c b → (n : ℕ) (x : Slot) → slot_at a n ≡ Some x → c x.group ≡ true → SameSlotAt a b n x
  unfolding slot_at queue_at
  same_at a b up same n x at cx =
      let r = row_of a n x at in
      let here : row_in (mine c a) n ≡ Some r.row = row_kept a.rows n r.row r.is (ap (λ (s : Slot). c s.group) r.slot ∙ cx) in
      let there : row_in b.rows n ≡ Some r.row = row_back b.rows (ascends b.rows up) n r.row (ap (λ l. row_in l n) (sym same) ∙ here) in
      record { slot = ap slot_of there ∙ ap (λ (s : Slot). Some s) r.slot; queue = ap queue_of r.is ∙ sym (ap queue_of there) }

-- 2. Rows of the groups after something was put.

module _ (c : ℕ → Bool) (n : ℕ) (f : ThreadRow → ThreadRow) where
  -- a change that leaves each row of the number in its group, or outside the groups
  pub filter_at : (rows : List ThreadRow) → AllByRecursion (λ (row : ThreadRow). row.slot.number ≡ n → is_row_of c (f row) ≡ is_row_of c row) rows
      → filter (is_row_of c) (map (at_number n f) rows) ≡ map (at_number n f) (filter (is_row_of c) rows)
  filter_at [] h = refl
  filter_at (row ∷ rows) h =
      let rest = filter_at rows h.1 in
      let same : is_row_of c (at_number n f row) ≡ is_row_of c row = by (nat_eq row.slot.number n) refl in
      elim (cases_Bool (is_row_of c row)) [
        | inl t ↦
            filter_takes (is_row_of c) (at_number n f row) (map (at_number n f) rows) (same ∙ t)
            ∙ ap (λ l. at_number n f row ∷ l) rest
            ∙ sym (ap (map (at_number n f)) (filter_takes (is_row_of c) row rows t))
        | inr e ↦
            filter_drops (is_row_of c) (at_number n f row) (map (at_number n f) rows) (same ∙ e)
            ∙ rest
            ∙ sym (ap (map (at_number n f)) (filter_drops (is_row_of c) row rows e))
      ]
    where
      by : (b : Bool) → nat_eq row.slot.number n ≡ b → is_row_of c (if b then f row else row) ≡ is_row_of c row
      by true e = h.0 (eqb-true row.slot.number n e)
      by false e = refl

  -- a change of rows outside the groups
  pub filter_beside : (rows : List ThreadRow) → AllByRecursion (λ (row : ThreadRow). row.slot.number ≡ n → (is_row_of c row ≡ false) × (is_row_of c (f row) ≡ false)) rows
      → filter (is_row_of c) (map (at_number n f) rows) ≡ filter (is_row_of c) rows
  filter_beside [] h = refl
  filter_beside (row ∷ rows) h = by (nat_eq row.slot.number n) refl (filter_beside rows h.1)
    where
      by : (b : Bool) → nat_eq row.slot.number n ≡ b → filter (is_row_of c) (map (at_number n f) rows) ≡ filter (is_row_of c) rows
          → filter (is_row_of c) ((if b then f row else row) ∷ map (at_number n f) rows) ≡ filter (is_row_of c) (row ∷ rows)
      by true e rest =
          let out = h.0 (eqb-true row.slot.number n e) in
          filter_drops (is_row_of c) (f row) (map (at_number n f) rows) out.1 ∙ rest ∙ sym (filter_drops (is_row_of c) row rows out.0)
      by false e rest = ap (λ l. cond (is_row_of c row) (row ∷ l) l) rest

-- a core with the slots of another
pub record Sames (first core : Core) : Type 0 where
  pub same : identities_of core ≡ identities_of first
  pub rises : Rises core

pub sames_self : (core : Core) → Rises core → Sames core core
sames_self core up = record { same = refl; rises = up }

module _ (first core : Core) (k : Sames first core) where
  pub put_slot-sames : (s was : Slot) → slot_at first s.number ≡ Some was → identity_of was ≡ identity_of s → Sames first (put_slot core s)
  put_slot-sames s was at same =
      let now = stays_by first core s.number was k.same at in
      let ids : identities_of (put_slot core s) ≡ identities_of core = identities_of-put_slot core s now.now k.rises now.is (now.same ∙ same) in
      record { same = ids ∙ k.same; rises = rises_by core (put_slot core s) ids k.rises }

  -- the rows at a number are of the slot that stood there at first
  pub group_at : (n : ℕ) (was : Slot) → slot_at first n ≡ Some was → AllByRecursion (λ (row : ThreadRow). row.slot.number ≡ n → row.slot.group ≡ was.group) core.rows
  group_at n was at =
      let now = stays_by first core n was k.same at in
      each_map (λ (row : ThreadRow). row.slot.number ≡ n → row.slot ≡ now.now) (λ (row : ThreadRow). row.slot.number ≡ n → row.slot.group ≡ was.group)
      (λ row one number. ap (λ (x : Slot). x.group) (one number) ∙ ap (λ (x : ℕ × ℕ × Option ℕ). x.1) now.same)
      core.rows (same_slot core k.rises n now.now now.is)

  module _ (c : ℕ → Bool) where
    pub mine-put_slot : (s was : Slot) → slot_at first s.number ≡ Some was → was.group ≡ s.group
        → mine c (put_slot core s) ≡ map (at_number s.number (λ (row : ThreadRow). record row { slot = s })) (mine c core)
    unfolding put_slot
    mine-put_slot s was at group =
        filter_at c s.number (λ (row : ThreadRow). record row { slot = s }) core.rows
        (each_map (λ (row : ThreadRow). row.slot.number ≡ s.number → row.slot.group ≡ was.group) (λ (row : ThreadRow). row.slot.number ≡ s.number → c s.group ≡ c row.slot.group)
        (λ row one number. sym (ap c (one number ∙ group))) core.rows (group_at s.number was at))

    pub mine-put_queue : (n : ℕ) (q : List Event) → mine c (put_queue core n q) ≡ map (at_number n (λ (row : ThreadRow). record row { queue = q })) (mine c core)
    unfolding put_queue
    mine-put_queue n q = filter_at c n (λ (row : ThreadRow). record row { queue = q }) core.rows (all core.rows)
      where
        all : (rows : List ThreadRow) → AllByRecursion (λ (row : ThreadRow). row.slot.number ≡ n → c row.slot.group ≡ c row.slot.group) rows
        all [] = tt
        all (row ∷ rows) = ((λ e. refl), all rows)

    pub beside-put_slot : (s was : Slot) → slot_at first s.number ≡ Some was → was.group ≡ s.group → c s.group ≡ false → mine c (put_slot core s) ≡ mine c core
    unfolding put_slot
    beside-put_slot s was at group out =
        filter_beside c s.number (λ (row : ThreadRow). record row { slot = s }) core.rows
        (each_map (λ (row : ThreadRow). row.slot.number ≡ s.number → row.slot.group ≡ was.group) (λ (row : ThreadRow). row.slot.number ≡ s.number → (c row.slot.group ≡ false) × (c s.group ≡ false))
        (λ row one number. (ap c (one number ∙ group) ∙ out, out)) core.rows (group_at s.number was at))

    pub beside-put_queue : (n : ℕ) (q : List Event) (was : Slot) → slot_at first n ≡ Some was → c was.group ≡ false → mine c (put_queue core n q) ≡ mine c core
    unfolding put_queue
    beside-put_queue n q was at out =
        filter_beside c n (λ (row : ThreadRow). record row { queue = q }) core.rows
        (each_map (λ (row : ThreadRow). row.slot.number ≡ n → row.slot.group ≡ was.group) (λ (row : ThreadRow). row.slot.number ≡ n → (c row.slot.group ≡ false) × (c row.slot.group ≡ false))
        (λ row one number. (ap c (one number) ∙ out, ap c (one number) ∙ out)) core.rows (group_at n was at))

-- a change that is granted leaves the slots who they are
module _ (i : Image) (core : Core) (up : Rises core) where
  pub other_sames : (n : ℕ) (o : Option Slot) → OtherSlot i All core n o → Sames core (with_other core o)
  other_sames n None k = sames_self core up
  other_sames n (Some o) k =
      let number = slot_at-number core o.number k.old k.stands in
      let group = k.group in
      let handler = k.handler in
      put_slot-sames core core (sames_self core up) o k.old k.stands cc

  pub own_sames : (s : Slot) → slot_at core s.number ≡ Some s → (d : Change) → OtherSlot i All core s.number d.other → Sames core (put_slot (with_other core d.other) (slot_after s d))
  own_sames s at d other =
      put_slot-sames core (with_other core d.other) (other_sames s.number d.other other) (slot_after s d) s (ap (slot_at core) (changed_from s d).number ∙ at) (changed_identity s d)

pub mine-with_out : (c : ℕ → Bool) (core : Core) (g : ℕ) (o : Option ℕ) → mine c (with_out core g o) ≡ mine c core
unfolding put_output
mine-with_out c core g None = refl
mine-with_out c core g (Some byte) = refl

pub output_of-put_slot : (core : Core) (s : Slot) (g : ℕ) → output_of (put_slot core s) g ≡ output_of core g
unfolding put_slot output_of
output_of-put_slot core s g = refl
