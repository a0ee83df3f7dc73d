-- Words that are granted: of slots and queues by their numbers, along services, and under more entries.
use Rattle.std.proofs.Common.{◌≡◌, ℕ, zero, suc, inl, inr, Bool, true, false, nat_eq, if◌then◌else◌, List, [], ◌∷◌}
use Rattle.std.proofs.Common.{◌++◌, map, Option, Some, None, refl, sym, ap, ◌∙◌, subst, arith}
use Rattle.std.specs.{Prelude.Contains, List.AllByRecursion}
use Rattle.mm_model.proofs.{EffectWords.each_or, CoreRows.{each_map, each_set, identities_of, stays_by, slot_contained}}
use Rattle.mm_model.proofs.Starts.{start_slots}
use Rattle.mm_model.specs.{declared.{slot.Pending.Pending, event.Event.Event}, Memory.Memory, Slot.{Slot, register}}
use Rattle.mm_model.specs.{State.{ThreadRow, Core, row_in, slot_of, queue_of, slot_at, queue_at}, Image.{Image, start}}
use Rattle.mm_model.specs.{Fits.identity_of, Effect.{delivers, delivered}}
use Rattle.mm_model.specs.Reach.{Entries, MayEnter, Grants, Serves, CanWrite, LoadsAt, Entries.{All, These}}
use Rattle.mm_word.specs.{declared.word.Word.{Word, TheVariants.{Int, Ptr}}, Pointer.Pointer}
use Rattle.mm_laws.specs.Grants.{Grow}
use Rattle.mm_laws.specs.Granted.{WordGranted, SlotGranted, EventGranted, RowGranted, CellGranted, CellsGranted}
use Rattle.mm_laws.{specs.Granted.with_entries, proofs.GrantLaws.grants_grow}

-- 1. Lists.

pub contained_left : {A : Type 0} (xs ys : List A) (x : A) → Contains xs x → Contains (xs ++ ys) x
contained_left [] ys x h = absurd (omega (arith, h.1))
contained_left (y ∷ xs) ys x (zero, lt, is) = (0, omega arith, is)
contained_left (y ∷ xs) ys x (suc k, lt, is) =
    let later = contained_left xs ys x (k, omega arith, is) in
    (suc later.0, omega (arith, later.1), later.2)

pub contained_last : {A : Type 0} (xs : List A) (x : A) → Contains (xs ++ x ∷ []) x
contained_last [] x = (0, omega arith, refl)
contained_last (y ∷ xs) x = let later = contained_last xs x in (suc later.0, omega (arith, later.1), later.2)

-- 2. Rows by number.

-- what holds of each row holds of the row at a number
pub row_has : (P : ThreadRow → Type 0) (rows : List ThreadRow) (n : ℕ) (row : ThreadRow) → AllByRecursion P rows → row_in rows n ≡ Some row → P row
row_has P [] n row h is = cc
row_has P (r ∷ rows) n row h is = by (nat_eq r.slot.number n) is (λ e. row_has P rows n row h.1 e)
  where
    by : (b : Bool) → (if b then Some r else row_in rows n) ≡ Some row → (row_in rows n ≡ Some row → P row) → P row
    by true e later = let same : r ≡ row = cc in subst P same h.0
    by false e later = later e

-- the row of a slot
pub record RowOf (core : Core) (n : ℕ) (s : Slot) : Type 0 where
  pub row : ThreadRow
  pub is : row_in core.rows n ≡ Some row
  pub slot : row.slot ≡ s
  pub queue : row.queue ≡ queue_at core n

pub row_of : (core : Core) (n : ℕ) (s : Slot) → slot_at core n ≡ Some s → RowOf core n s
unfolding slot_at queue_at
row_of core n s at = by (row_in core.rows n) refl at
  where
    by : (o : Option ThreadRow) → row_in core.rows n ≡ o → slot_of o ≡ Some s → RowOf core n s
    by None is e = cc
    by (Some row) is e = record { row = row; is = is; slot = cc; queue = sym (ap queue_of is) }

module _ (i : Image) (e : Entries) (core : Core) (rows : AllByRecursion (RowGranted i e) core.rows) where
  pub slot_granted : (n : ℕ) (s : Slot) → slot_at core n ≡ Some s → SlotGranted i e s
  slot_granted n s at = let r = row_of core n s at in subst (SlotGranted i e) r.slot (row_has (RowGranted i e) core.rows n r.row rows r.is).slot

  pub queue_granted : (n : ℕ) (s : Slot) → slot_at core n ≡ Some s → AllByRecursion (EventGranted i e s.group) (queue_at core n)
  queue_granted n s at =
      let r = row_of core n s at in
      subst (λ (q : List Event). AllByRecursion (EventGranted i e s.group) q) r.queue
      (subst (λ (t : Slot). AllByRecursion (EventGranted i e t.group) r.row.queue) r.slot (row_has (RowGranted i e) core.rows n r.row rows r.is).events)

pub register_granted : (i : Image) (e : Entries) (s : Slot) → SlotGranted i e s → (r : ℕ) → WordGranted i e s.group (register s r)
unfolding register
register_granted i e s h r = each_or (WordGranted i e s.group) s.regs r (Int 0) h.registers tt

-- a slot whose oldest load is delivered
pub delivered_granted : (i : Image) (e : Entries) (s : Slot) → SlotGranted i e s → SlotGranted i e (delivered s)
unfolding delivered
delivered_granted i e s h = by s.pending h.pending
  where
    by : (ps : List Pending) → AllByRecursion (λ (p : Pending). WordGranted i e s.group p.word) ps → SlotGranted i e (delivers s ps)
    by [] k = h
    by (p ∷ rest) k = record { registers = each_set (WordGranted i e s.group) s.regs p.reg p.word h.registers k.0; ip = h.ip; pending = k.1 }

-- 3. Slots that serve one another in a state do so in its image.

-- the image's slot of a slot
pub record ImageSlot (i : Image) (s : Slot) : Type 0 where
  pub slot : Slot
  pub stands : Contains i.slots slot
  pub same : identity_of slot ≡ identity_of s

pub image_slot : (i : Image) (core : Core) → identities_of core ≡ map identity_of i.slots → (n : ℕ) (s : Slot) → slot_at core n ≡ Some s → ImageSlot i s
image_slot i core same n s at =
    let was = stays_by core (start i).core n s (ap (map identity_of) (start_slots i) ∙ sym same) at in
    record { slot = was.now; stands = subst (λ (slots : List Slot). Contains slots was.now) (start_slots i) (slot_contained (start i).core n was.now was.is); same = was.same }

pub record BothServe (i : Image) (g h : ℕ) : Type 0 where
  pub here : Serves i g h
  pub there : Serves i h g

-- a slot and its handler
pub serving : (i : Image) (core : Core) → identities_of core ≡ map identity_of i.slots → (m n : ℕ) (t s : Slot)
    → slot_at core m ≡ Some t → slot_at core n ≡ Some s → t.handler ≡ Some s.number → BothServe i s.group t.group
serving i core same m n t s t_at s_at handled =
    let u = image_slot i core same m t t_at in
    let v = image_slot i core same n s s_at in
    let number : v.slot.number ≡ s.number = ap (λ (x : ℕ × ℕ × Option ℕ). x.0) v.same in
    let served : u.slot.handler ≡ Some v.slot.number = ap (λ (x : ℕ × ℕ × Option ℕ). x.2) u.same ∙ handled ∙ ap (λ (k : ℕ). Some k) (sym number) in
    let one : u.slot.group ≡ t.group = ap (λ (x : ℕ × ℕ × Option ℕ). x.1) u.same in
    let other : v.slot.group ≡ s.group = ap (λ (x : ℕ × ℕ × Option ℕ). x.1) v.same in
    record {
      here = record { served = u.slot; server = v.slot; one = u.stands; other = v.stands; handled = served; groups = inr (one, other) };
      there = record { served = u.slot; server = v.slot; one = u.stands; other = v.stands; handled = served; groups = inl (one, other) };
    }

pub word_served : (i : Image) (e : Entries) (g h : ℕ) (w : Word) → WordGranted i e h w → Serves i g h → WordGranted i e g w
word_served i e g h (Int bits) granted sv = tt
word_served i e g h (Ptr q) granted sv = Grants.served h granted sv

-- 4. More entries.

pub with_entries-grow : (e : Entries) (new : List (ℕ × Pointer)) → Grow e (with_entries e new)
with_entries-grow All new g p m = m
with_entries-grow (These list) new g p m = contained_left list new (g, p) m

pub with_entry-last : (e : Entries) (g : ℕ) (p : Pointer) → MayEnter (with_entries e ((g, p) ∷ [])) g p
with_entry-last All g p = tt
with_entry-last (These list) g p = contained_last list (g, p)

module _ (i : Image) (e f : Entries) (more : Grow e f) where
  pub word_grows : (g : ℕ) (w : Word) → WordGranted i e g w → WordGranted i f g w
  word_grows g (Int bits) h = tt
  word_grows g (Ptr q) h = grants_grow i e f more _ _ h

  pub slot_grows : (s : Slot) → SlotGranted i e s → SlotGranted i f s
  slot_grows s h = record {
    registers = each_map (WordGranted i e s.group) (WordGranted i f s.group) (word_grows s.group) s.regs h.registers;
    ip = grants_grow i e f more _ _ h.ip;
    pending = each_map (λ (p : Pending). WordGranted i e s.group p.word) (λ (p : Pending). WordGranted i f s.group p.word) (λ p. word_grows s.group p.word) s.pending h.pending;
  }

  pub event_grows : (g : ℕ) (event : Event) → EventGranted i e g event → EventGranted i f g event
  event_grows g event h = record { ip = grants_grow i e f more _ _ h.ip; address = word_grows g event.addr_op h.address; value = word_grows g event.value_op h.value }

  pub row_grows : (row : ThreadRow) → RowGranted i e row → RowGranted i f row
  row_grows row h = record { slot = slot_grows row.slot h.slot; events = each_map (EventGranted i e row.slot.group) (EventGranted i f row.slot.group) (event_grows row.slot.group) row.queue h.events }

  pub write_grows : (g w : ℕ) → CanWrite i e g w → CanWrite i f g w
  write_grows g w h = record { by = h.by; granted = grants_grow i e f more _ _ h.granted; stores = h.stores }

  pub cell_grows : (w : ℕ) (x : Word) → CellGranted i e w x → CellGranted i f w x
  cell_grows w (Int bits) h = tt
  cell_grows w (Ptr q) (inl own) = inl own
  cell_grows w (Ptr q) (inr h) = inr (record { group = h.group; granted = grants_grow i e f more _ _ h.granted; writes = write_grows h.group w h.writes })

  pub rows_grow : (rows : List ThreadRow) → AllByRecursion (RowGranted i e) rows → AllByRecursion (RowGranted i f) rows
  rows_grow rows h = each_map (RowGranted i e) (RowGranted i f) row_grows rows h

  pub cells_grow : (m : Memory) → CellsGranted i e m → CellsGranted i f m
  cells_grow m h w c at = cell_grows w c.word (h w c at)

-- 5. Cells.

-- what a load reads is granted to whoever can load there
pub load_granted : (i : Image) (e : Entries) (g w : ℕ) (p : Pointer) (x : Word) → Grants i e g p → LoadsAt p w → CellGranted i e w x → WordGranted i e g x
load_granted i e g w p (Int bits) gp loads c = tt
load_granted i e g w p (Ptr q) gp loads (inl own) = Grants.in_cell p w own.cell gp loads own.stands own.holds
load_granted i e g w p (Ptr q) gp loads (inr c) = Grants.passed c.group w c.writes.by p c.granted c.writes.granted c.writes.stores gp loads

pub stored_granted : (i : Image) (e : Entries) (g w : ℕ) (x : Word) → WordGranted i e g x → CanWrite i e g w → CellGranted i e w x
stored_granted i e g w (Int bits) h writes = tt
stored_granted i e g w (Ptr q) h writes = inr (record { group = g; granted = h; writes = writes })
