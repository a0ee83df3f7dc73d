-- What holds of the rows of a core and of the cells of a memory, and how changes keep it.
use Rattle.std.proofs.Common.{◌≡◌, ℕ, ◌%◌, ◌⊎◌, inl, inr, Bool, true, false, if◌then◌else◌, nat_eq, eqb-true, List, []}
use Rattle.std.proofs.Common.{◌∷◌, ◌++◌, map, Option, Some, None, refl, sym, ap, ◌∙◌, subst}
use Rattle.std.{proofs.lemmas.Bool.cases_eq, specs.List.AllByRecursion}
use Rattle.mm_word.specs.declared.word.{Word.{Word, TheVariants.Ptr}, Cell.Cell}
use Rattle.mm_model.specs.declared.{event.Event.Event, slot.SlotState.TheVariants.{Running, Waiting, Halted}}
use Rattle.mm_model.specs.{Memory.{Memory, cell_at, put_cell}, Slot.Slot}
use Rattle.mm_model.specs.State.{ThreadRow, Core, slot_at, queue_at, row_in, queue_of, at_number, put_slot, put_queue}
use Rattle.mm_model.specs.{State.put_output, Image.Image, Effect.{Change, Pages, Pages.Keep}}
use Rattle.mm_model.specs.Turn.{slot_after, with_other, with_queue, with_out, with_cell, with_pages, core_after}
use Rattle.mm_model.specs.Turn.{memory_after, stood, is_sync, core_faulted}
use Rattle.mm_model.proofs.CoreRows.{each_map, each_push, slot_has, into_map}
use Rattle.mm_model.proofs.Memories.{put_cases, cell_at-put_same, cell_at-put_other, aligned}
use Rattle.mm_kernel.specs.Segments.{Segment, is_kept, is_fixed}
use Rattle.mm_kernel.specs.declared.{fact.Handling.Handling, form.Form.{Form, TheVariants.Any}}
use Rattle.mm_kernel.specs.{Facts.Fact.{HasForm, HasEvent}, Derived.Derived}
use Rattle.mm_kernel.proofs.{Owns.{World, Left, KeptFor, SeenBy}, Values.Fits, Slots.{guards, SlotOk}}

module _ (i : Image) (kept : List Segment) (wd : World i kept) where
  -- 1. Events.

  abbrev pub any_event : Handling
  any_event = record { ip = Any; address = Any; value = Any }

  pub record EventOk (n : ℕ) (e : Event) : Type 0 where
    pub event : Handling
    pub ip : Fits i kept (SeenBy i kept wd n) event.ip (Ptr e.ip)
    pub address : Fits i kept (SeenBy i kept wd n) event.address e.addr_op
    pub value : Fits i kept (SeenBy i kept wd n) event.value e.value_op
    pub from : (event ≡ any_event) ⊎ ((guards i kept n ≡ true) × Derived i kept (HasEvent n event))

  -- 2. Rows.

  pub record RowOk (row : ThreadRow) : Type 0 where
    pub slot : SlotOk i kept wd row.slot
    pub queue : AllByRecursion (EventOk row.slot.number) row.queue

  abbrev pub RowsOk : Core → Type 0
  RowsOk core = AllByRecursion RowOk core.rows

  rows_slot : (s : Slot) → SlotOk i kept wd s → (rows : List ThreadRow) → AllByRecursion RowOk rows → AllByRecursion RowOk (map (at_number s.number (λ (row : ThreadRow). record row { slot = s })) rows)
  rows_slot s ok [] h = tt
  rows_slot s ok (row ∷ rows) h = (by (nat_eq row.slot.number s.number) refl, rows_slot s ok rows h.1)
    where
      by : (b : Bool) → nat_eq row.slot.number s.number ≡ b → RowOk (if b then record row { slot = s } else row)
      by true e = record { slot = ok; queue = subst (λ n. AllByRecursion (EventOk n) row.queue) (eqb-true row.slot.number s.number e) h.0.queue }
      by false e = h.0

  rows_queue : (n : ℕ) (q : List Event) → AllByRecursion (EventOk n) q → (rows : List ThreadRow) → AllByRecursion RowOk rows
      → AllByRecursion RowOk (map (at_number n (λ (row : ThreadRow). record row { queue = q })) rows)
  rows_queue n q ok [] h = tt
  rows_queue n q ok (row ∷ rows) h = (by (nat_eq row.slot.number n) refl, rows_queue n q ok rows h.1)
    where
      by : (b : Bool) → nat_eq row.slot.number n ≡ b → RowOk (if b then record row { queue = q } else row)
      by true e = record { slot = h.0.slot; queue = subst (λ k. AllByRecursion (EventOk k) q) (sym (eqb-true row.slot.number n e)) ok }
      by false e = h.0

  pub put_slot_ok : (core : Core) (s : Slot) → RowsOk core → SlotOk i kept wd s → RowsOk (put_slot core s)
  unfolding put_slot
  put_slot_ok core s h ok = rows_slot s ok core.rows h

  pub put_queue_ok : (core : Core) (n : ℕ) (q : List Event) → RowsOk core → AllByRecursion (EventOk n) q → RowsOk (put_queue core n q)
  unfolding put_queue
  put_queue_ok core n q h ok = rows_queue n q ok core.rows h

  pub slot_ok : (core : Core) → RowsOk core → (n : ℕ) (s : Slot) → slot_at core n ≡ Some s → SlotOk i kept wd s
  slot_ok core h n s at = slot_has (SlotOk i kept wd) core n s
      (into_map (SlotOk i kept wd) (λ (row : ThreadRow). row.slot) core.rows (each_map RowOk (λ (row : ThreadRow). SlotOk i kept wd row.slot) (λ row k. k.slot) core.rows h)) at

  queue_in : (rows : List ThreadRow) (n : ℕ) → AllByRecursion RowOk rows → AllByRecursion (EventOk n) (queue_of (row_in rows n))
  queue_in [] n h = tt
  queue_in (row ∷ rows) n h = by (nat_eq row.slot.number n) refl (queue_in rows n h.1)
    where
      by : (b : Bool) → nat_eq row.slot.number n ≡ b → AllByRecursion (EventOk n) (queue_of (row_in rows n)) → AllByRecursion (EventOk n) (queue_of (if b then Some row else row_in rows n))
      by true e k = subst (λ x. AllByRecursion (EventOk x) row.queue) (eqb-true row.slot.number n e) h.0.queue
      by false e k = k

  pub queue_ok : (core : Core) → RowsOk core → (n : ℕ) → AllByRecursion (EventOk n) (queue_at core n)
  unfolding queue_at
  queue_ok core h n = queue_in core.rows n h

  -- 3. Cells.

  -- one of the forms derived for a kept word stands for the word in its cell
  pub record HeldIn (w : ℕ) (word : Word) : Type 0 where
    pub form : Form
    pub derived : Derived i kept (HasForm w form)
    pub fits : Fits i kept (KeptFor i kept wd w) form word

  abbrev pub WordOkAs : (is_kept : Bool) → ℕ → Word → Type 0
  WordOkAs true w word = HeldIn w word
  WordOkAs false w word = Fits i kept (Left i kept wd w) Any word

  abbrev pub WordOk : ℕ → Word → Type 0
  WordOk w word = WordOkAs (is_kept kept w) w word

  pub record MemOk (m : Memory) : Type 0 where
    pub cells : (w : ℕ) (c : Cell) → cell_at m w ≡ Some c → WordOk w c.word
    pub fixed : (w : ℕ) (c : Cell) → cell_at i.memory w ≡ Some c → is_fixed i w ≡ true → cell_at m w ≡ Some c
    pub there : (w : ℕ) (c : Cell) → cell_at m w ≡ Some c → (d : Cell) × (cell_at i.memory w ≡ Some d)
    pub back : (w : ℕ) (c : Cell) → cell_at i.memory w ≡ Some c → (d : Cell) × (cell_at m w ≡ Some d)

  -- a cell that is written stands already, and is not fixed
  pub record WriteOk (m : Memory) (w : ℕ × Cell) : Type 0 where
    pub old : Cell
    pub stands : cell_at m w.0 ≡ Some old
    pub unfixed : (c : Cell) → cell_at i.memory w.0 ≡ Some c → is_fixed i w.0 ≡ false
    pub word : WordOk w.0 w.1.word

  abbrev pub CellOk : Memory → Option (ℕ × Cell) → Type 0
  CellOk m None = Unit {0}
  CellOk m (Some w) = WriteOk m w

  cell_ok : (m : Memory) (o : Option (ℕ × Cell)) → MemOk m → CellOk m o → MemOk (with_cell m o)
  cell_ok m None h k = h
  cell_ok m (Some p) h k = record {
    cells = λ w c at. elim (put_cases m p.0 w p.1 c word at) [
      | inl here ↦ subst (λ v. WordOk v c.word) (sym here.0) (subst (λ (x : Cell). WordOk p.0 x.word) (sym here.1) k.word)
      | inr old ↦ h.cells w c old
    ];
    fixed = λ w c at fixed. cell_at-put_other m p.0 w p.1 word (λ same. let no = k.unfixed c (ap (cell_at i.memory) (sym same) ∙ at) in cc (ap (is_fixed i) same, fixed, no)) ∙ h.fixed w c at fixed;
    there = λ w c at. elim (put_cases m p.0 w p.1 c word at) [
      | inl here ↦ let t = h.there p.0 k.old k.stands in (t.0, ap (cell_at i.memory) here.0 ∙ t.1)
      | inr old ↦ h.there w c old
    ];
    back = λ w c at. elim (cases_eq w p.0) [
      | inl here ↦ (p.1, ap (cell_at (put_cell m p.0 p.1)) here ∙ cell_at-put_same m p.0 p.1 k.old k.stands)
      | inr ne ↦ let t = h.back w c at in (t.0, cell_at-put_other m p.0 w p.1 word ne ∙ t.1)
    ];
  }
    where
      word : p.0 % 8 ≡ 0
      word = aligned m p.0 k.old k.stands

  -- 4. Changes.

  abbrev pub OtherOk : Option Slot → Type 0
  OtherOk None = Unit {0}
  OtherOk (Some o) = SlotOk i kept wd o

  abbrev pub QueueOk : ℕ → Option (List Event) → Type 0
  QueueOk n None = Unit {0}
  QueueOk n (Some q) = AllByRecursion (EventOk n) q

  pub record ChangeOk (m : Memory) (s : Slot) (c : Change) : Type 0 where
    pub own : SlotOk i kept wd (slot_after s c)
    pub cell : CellOk m c.cell
    pub pages : c.pages ≡ Keep
    pub queue : QueueOk s.number c.queue
    pub other : OtherOk c.other

  other_ok : (core : Core) (o : Option Slot) → RowsOk core → OtherOk o → RowsOk (with_other core o)
  other_ok core None h k = h
  other_ok core (Some o) h k = put_slot_ok core o h k

  queued_ok : (core : Core) (n : ℕ) (o : Option (List Event)) → RowsOk core → QueueOk n o → RowsOk (with_queue core n o)
  queued_ok core n None h k = h
  queued_ok core n (Some q) h k = put_queue_ok core n q h k

  out_ok : (core : Core) (g : ℕ) (o : Option ℕ) → RowsOk core → RowsOk (with_out core g o)
  unfolding put_output
  out_ok core g None h = h
  out_ok core g (Some byte) h = h

  pub change_rows : (core : Core) (m : Memory) (s : Slot) (c : Change) → RowsOk core → ChangeOk m s c → RowsOk (core_after core s c)
  unfolding core_after
  change_rows core m s c h k =
      out_ok (with_queue (put_slot (with_other core c.other) (slot_after s c)) s.number c.queue) s.group c.out
      (queued_ok (put_slot (with_other core c.other) (slot_after s c)) s.number c.queue
      (put_slot_ok (with_other core c.other) (slot_after s c) (other_ok core c.other h k.other) k.own) k.queue)

  pub change_cells : (m : Memory) (s : Slot) (c : Change) → MemOk m → ChangeOk m s c → MemOk (memory_after m c)
  unfolding memory_after
  change_cells m s c h k = subst (λ (p : Pages). MemOk (with_pages (with_cell m c.cell) p)) (sym k.pages) (cell_ok m c.cell h k.cell)

  -- 5. Faults.

  -- what a fault needs: by its handler
  abbrev pub FaultOk : Slot → Event → Option ℕ → Type 0
  FaultOk s e None = SlotOk i kept wd (stood s Running)
  FaultOk s e (Some h) = SlotOk i kept wd (stood s Waiting) × EventOk h e

  pub fault_rows : (core : Core) (s : Slot) (e : Event) (o : Option ℕ) → RowsOk core → FaultOk s e o → RowsOk (core_faulted core s e o)
  unfolding core_faulted
  fault_rows core s e (Some h) rows k =
      let waits : Core = put_slot core (stood s Waiting) in
      let ok = put_slot_ok core (stood s Waiting) rows k.0 in
      put_queue_ok waits h (queue_at waits h ++ e ∷ []) ok (each_push (EventOk h) (queue_at waits h) e (queue_ok waits ok h) k.1)
  fault_rows core s e None rows k = by (is_sync e.cause)
    where
      by : (b : Bool) → RowsOk (if b then put_slot core (stood s Running) else put_slot core (stood s (Halted (Some e.cause))))
      by true = put_slot_ok core (stood s Running) rows k
      by false = put_slot_ok core (stood s (Halted (Some e.cause))) rows tt
