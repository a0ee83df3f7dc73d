-- What a turn leaves is granted, and so is what it touches, enters and changes.
use Rattle.std.proofs.Common.{◌≡◌, ◌≢◌, ℕ, ◌+◌, ◌/◌, ◌%◌, ◌^◌, ◌≤◌, ◌⊎◌, inl, inr, Bool, true, false, nat_eq, nat_lt}
use Rattle.std.proofs.Common.{if◌then◌else◌, List, [], ◌∷◌, ◌++◌, map, Option, Some, None, Result, Ok, Err, refl, sym}
use Rattle.std.proofs.{Common.{ap, ◌∙◌, subst, arith, pos, slice_set, eqb-true}, Math.Nat.div-eq_of_lt}
use Rattle.std.{proofs.lemmas.Bool.cases_eq, specs.{Prelude.IfSome, Option.option_to_list, List.AllByRecursion}}
use Rattle.mm_word.specs.declared.perm.{Perm.TheVariants.Rw, Kind.{Kind, TheVariants.{Fetch, Store}}}
use Rattle.mm_word.specs.declared.cause.Cause.{Cause, TheVariants.{Bounds, Priv}}
use Rattle.mm_word.specs.declared.word.{Pre.Pre, Word.{Word, TheVariants.{Int, Ptr}}, Cell.Cell}
use Rattle.mm_word.specs.{Access.{AccessValue, check_result}, Perm.can_store, Pointer.{Pointer, IsWellFormed, Covers}}
use Rattle.mm_word.specs.Word.{word_bits}
use Rattle.mm_isa.specs.declared.instr.Instr.{Instr, TheVariants.{Ld, St, Map, Unmap}}
use Rattle.mm_model.specs.declared.slot.{SlotState.{SlotState, TheVariants.{Running, Waiting, Halted}}, Pending.Pending}
use Rattle.mm_model.specs.declared.{event.Event.Event, step.Tick.TheVariants.Did}
use Rattle.mm_model.specs.{Memory.{Memory, cell_at, page_of, map_page, unmap_page}, Uses.Use, Slot.{Slot, register}}
use Rattle.mm_model.specs.State.{ThreadRow, Core, State, slot_at, queue_at, at_number, put_slot, put_queue, put_output}
use Rattle.mm_model.specs.{Image.Image, Spelling.{IsImage, IsOther}, Fits.{slots_of, identity_of, IsState, Fits}}
use Rattle.mm_model.specs.Operands.{addr_operand, value_operand}
use Rattle.mm_model.specs.Ask.{Ask, ask, is_privileged, load_kind, reaching, Ask.{Refuse, MapPage, UnmapPage}}
use Rattle.mm_model.specs.Effect.{Change, Pages, Effect, effect, delivered}
use Rattle.mm_model.specs.Effect.{Pages.{Keep, Add, Remove}, Effect.{Fault, Block, Deliver, Do}}
use Rattle.mm_model.specs.Turn.{Turned, reply, put_all, state_after, with_issue, slot_after, with_other, with_queue}
use Rattle.mm_model.specs.Turn.{with_out, with_cell, with_pages, core_after, memory_after, stood, is_sync, event_of}
use Rattle.mm_model.specs.Turn.{core_faulted, faulted, touch_of, asked_use, blocked, ended, executed, idle, arrives}
use Rattle.mm_model.specs.{Turn.turn, Run.after, Trace.{touches, group_of, group_in, done_entry}}
use Rattle.mm_model.specs.Reach.{Entries, Grants, CanWrite, Privileged}
use Rattle.mm_model.proofs.CoreRows.{each_set, each_map, each_push, slot_at-number, slot_at-put_same, slot_at-put_queue}
use Rattle.mm_model.proofs.CoreRows.{slots_of-put_queue, slots_found, slot_has, other_at, Rises, identities_of}
use Rattle.mm_model.proofs.{CoreRows.{rises_by, stays_by, identities_of-put_slot}, SlotSteps.delivered_from}
use Rattle.mm_model.proofs.EffectWords.{slot_words}
use Rattle.mm_model.proofs.Memories.{put_cases, map_cases, unmap_cases, cell_at-put_other, cell_at-map_other}
use Rattle.mm_model.proofs.Memories.{cell_at-unmap_other, cell_at-unaligned, word_or_none}
use Rattle.mm_model.proofs.{TurnKeeps.changed_from, TurnChanges.{changed_identity, delivered_identity}}
use Rattle.mm_model.proofs.{TurnShapes.{Fetches, fetch_uses, fetch_use, started_one, turn_by}, Fitted.fitting_of}
use Rattle.mm_model.proofs.StateKeeps.{after_state, after_fits}
use Rattle.mm_laws.specs.Granted.{WordGranted, SlotGranted, EventGranted, RowGranted, CellGranted, CellsGranted}
use Rattle.mm_laws.specs.Granted.{WordsGranted, TouchGranted, EntryGranted, StepGranted, with_entries}
use Rattle.mm_laws.specs.Grants.{Grow}
use Rattle.mm_laws.proofs.GrantLaws.{grants_grow}
use Rattle.mm_laws.proofs.GrantedWords.{slot_granted, queue_granted, delivered_granted, serving, word_served}
use Rattle.mm_laws.proofs.GrantedWords.{with_entries-grow, with_entry-last, word_grows, slot_grows, event_grows}
use Rattle.mm_laws.proofs.GrantedWords.{rows_grow, cells_grow, stored_granted}
use Rattle.mm_laws.proofs.GrantedRows.{reg, word_at, Stands, CellWritten, PageGranted, PagesGranted, OtherSlot}
use Rattle.mm_laws.proofs.GrantedRows.{QueueGranted, IssueGranted, NextGranted, ChangeGranted, EffectGranted, Checked}
use Rattle.mm_laws.proofs.GrantedRows.{checked, effect_granted, addr_operand-granted, value_operand-granted}

-- 1. Rows after a slot or a queue was put.

-- of the rows at a number there is one alone
pub same_slot : (core : Core) → Rises core → (n : ℕ) (s : Slot) → slot_at core n ≡ Some s → AllByRecursion (λ (row : ThreadRow). row.slot.number ≡ n → row.slot ≡ s) core.rows
same_slot core up n s at = rows_by core.rows (slots_found core up)
  where
    rows_by : (rows : List ThreadRow) → AllByRecursion (λ (t : Slot). slot_at core t.number ≡ Some t)
        (map (λ (row : ThreadRow). row.slot) rows) → AllByRecursion (λ (row : ThreadRow). row.slot.number ≡ n → row.slot ≡ s) rows
    rows_by [] k = tt
    rows_by (row ∷ rows) k = (
      (λ e. let two : ◌≡◌ {A = Option Slot} (Some row.slot) (Some s) = sym k.0 ∙ ap (slot_at core) e ∙ at in cc),
      rows_by rows k.1,
    )

each_changed : (P : ThreadRow → Type 0) (n : ℕ) (f : ThreadRow → ThreadRow) (rows : List ThreadRow)
    → AllByRecursion (λ (row : ThreadRow). row.slot.number ≡ n → P row → P (f row)) rows → AllByRecursion P rows
    → AllByRecursion P (map (at_number n f) rows)
each_changed P n f [] keeps h = tt
each_changed P n f (row ∷ rows) keeps h = (by (nat_eq row.slot.number n) refl, each_changed P n f rows keeps.1 h.1)
  where
    by : (b : Bool) → nat_eq row.slot.number n ≡ b → P (if b then f row else row)
    by true e = keeps.0 (eqb-true row.slot.number n e) h.0
    by false e = h.0

-- a core with the slots of another, whose words are granted
pub record Good (i : Image) (e : Entries) (first core : Core) : Type 0 where
  pub same : identities_of core ≡ identities_of first
  pub rises : Rises core
  pub rows : AllByRecursion (RowGranted i e) core.rows

module _ (i : Image) (e : Entries) (first core : Core) (good : Good i e first core) where
  pub put_slot-good : (s was : Slot) → slot_at first s.number ≡ Some was → identity_of was ≡ identity_of s → SlotGranted i e s → Good i e first (put_slot core s)
  unfolding put_slot
  put_slot-good s was at same own =
      let now = stays_by first core s.number was good.same at in
      let kept : identity_of now.now ≡ identity_of s = now.same ∙ same in
      let ids : identities_of (put_slot core s) ≡ identities_of core = identities_of-put_slot core s now.now good.rises now.is kept in
      record {
        same = ids ∙ good.same;
        rises = rises_by core (put_slot core s) ids good.rises;
        rows =
            each_changed (RowGranted i e) s.number (λ (row : ThreadRow). record row { slot = s }) core.rows
            (each_map (λ (row : ThreadRow). row.slot.number ≡ s.number → row.slot ≡ now.now)
            (λ (row : ThreadRow). row.slot.number ≡ s.number → RowGranted i e row → RowGranted i e (record row { slot = s }))
            (λ row one number granted. record {
              slot = own;
              events = subst (λ g. AllByRecursion (EventGranted i e g) row.queue) (ap (λ (x : Slot). x.group) (one number) ∙ ap (λ (x : ℕ × ℕ × Option ℕ). x.1) kept) granted.events;
            })
            core.rows (same_slot core good.rises s.number now.now now.is))
            good.rows;
      }

  pub put_queue-good : (n : ℕ) (was : Slot) (q : List Event) → slot_at first n ≡ Some was → AllByRecursion (EventGranted i e was.group) q → Good i e first (put_queue core n q)
  unfolding put_queue
  put_queue-good n was q at new =
      let now = stays_by first core n was good.same at in
      let ids : identities_of (put_queue core n q) ≡ identities_of core = ap (map identity_of) (slots_of-put_queue core n q) in
      record {
        same = ids ∙ good.same;
        rises = rises_by core (put_queue core n q) ids good.rises;
        rows =
            each_changed (RowGranted i e) n (λ (row : ThreadRow). record row { queue = q }) core.rows
            (each_map (λ (row : ThreadRow). row.slot.number ≡ n → row.slot ≡ now.now) (λ (row : ThreadRow). row.slot.number ≡ n → RowGranted i e row → RowGranted i e (record row { queue = q }))
            (λ row one number granted. record {
              slot = granted.slot;
              events = subst (λ g. AllByRecursion (EventGranted i e g) q) (sym (ap (λ (x : Slot). x.group) (one number) ∙ ap (λ (x : ℕ × ℕ × Option ℕ). x.1) now.same)) new;
            })
            core.rows (same_slot core good.rises n now.now now.is))
            good.rows;
      }

  -- the queue of a slot is granted
  pub good_queue : (n : ℕ) (was : Slot) → slot_at first n ≡ Some was → AllByRecursion (EventGranted i e was.group) (queue_at core n)
  good_queue n was at =
      let now = stays_by first core n was good.same at in
      subst (λ g. AllByRecursion (EventGranted i e g) (queue_at core n)) (ap (λ (x : ℕ × ℕ × Option ℕ). x.1) now.same) (queue_granted i e core good.rows n now.now now.is)

-- 2. Words at which cells change.

-- privileged code can write every word
wide : Pointer
wide = record { perm = Rw; log = 54; addr = 0 }

wide_covers : (w : ℕ) → w + 8 ≤ 2 ^ 54 → Covers wide w
unfolding wide
wide_covers w fits k lt = div-eq_of_lt (omega arith)

wide_fits : IsWellFormed wide
unfolding wide
wide_fits = record { log_in_range = omega arith; addr_in_range = omega arith }

wide_stores : can_store wide.perm ≡ true
unfolding wide
wide_stores = refl

pub privileged_writes : (i : Image) (e : Entries) (g w : ℕ) → Privileged i e g → w % 8 ≡ 0 → w + 8 ≤ 2 ^ 54 → CanWrite i e g w
privileged_writes i e g w h word near = record { by = wide; granted = Grants.made h.by h.granted h.perm wide_fits; stores = record { word = word; right = wide_stores; covers = wide_covers w near } }

-- a memory whose cells are those of another but where a group can write
abbrev pub ChangedBy : Image → Entries → ℕ → Memory → Memory → Type 0
ChangedBy i e g m later = (w : ℕ) → (cell_at later w ≡ cell_at m w) ⊎ CanWrite i e g w

module _ (i : Image) (e : Entries) (g : ℕ) where
  cell_changed : (m : Memory) (o : Option (ℕ × Cell)) → CellWritten i e m g o → ChangedBy i e g m (with_cell m o)
  cell_changed m None h w = inl refl
  cell_changed m (Some p) h w = elim (cases_eq w p.0) [
    | inl here ↦ inr (subst (CanWrite i e g) (sym here) h.writes)
    | inr ne ↦ inl (cell_at-put_other m p.0 w p.1 h.writes.stores.word ne)
  ]

  page_writes : (w page : ℕ) → PageGranted i e g page → page_of w ≡ page → w % 8 ≡ 0 → CanWrite i e g w
  page_writes w page h here word = let small = h.small in privileged_writes i e g w h.privileged word (omega arith)

  page_changed : (m later : Memory) (page : ℕ) → PageGranted i e g page → ((w : ℕ) → w / 4096 ≢ page → cell_at later w ≡ cell_at m w) → ChangedBy i e g m later
  page_changed m later page h others w = elim (cases_eq (page_of w) page) [
    | inl here ↦ elim (word_or_none w) [
      | inl word ↦ inr (page_writes w page h here word)
      | inr odd ↦ inl (cell_at-unaligned later w odd ∙ sym (cell_at-unaligned m w odd))
    ]
    | inr ne ↦ inl (others w ne)
  ]

  pages_changed : (m : Memory) (p : Pages) → PagesGranted i e g p → ChangedBy i e g m (with_pages m p)
  pages_changed m Keep h w = inl refl
  pages_changed m (Add page) h w = page_changed m (map_page m page) page h (λ v ne. cell_at-map_other m page v ne) w
  pages_changed m (Remove page) h w = page_changed m (unmap_page m page) page h (λ v ne. cell_at-unmap_other m page v ne) w

  then_changed : (m mid later : Memory) → ChangedBy i e g m mid → ChangedBy i e g mid later → ChangedBy i e g m later
  then_changed m mid later first second w = elim (second w) [
    | inl same ↦ elim (first w) [
      | inl was ↦ inl (same ∙ was)
      | inr writes ↦ inr writes
    ]
    | inr writes ↦ inr writes
  ]

  cell_granted : (m : Memory) (o : Option (ℕ × Cell)) → CellsGranted i e m → CellWritten i e m g o → CellsGranted i e (with_cell m o)
  cell_granted m None cells h w c at = cells w c at
  cell_granted m (Some p) cells h w c at = elim (put_cases m p.0 w p.1 c h.writes.stores.word at) [
    | inl here ↦
        subst (λ v. CellGranted i e v c.word) (sym here.0)
        (subst (λ (x : Cell). CellGranted i e p.0 x.word) (sym here.1) (stored_granted i e g p.0 p.1.word h.word h.writes))
    | inr old ↦ cells w c old
  ]

  pages_granted : (m : Memory) (p : Pages) → CellsGranted i e m → CellsGranted i e (with_pages m p)
  pages_granted m Keep cells w c at = cells w c at
  pages_granted m (Add page) cells w c at = elim (map_cases m page w c at) [
    | inl new ↦ subst (λ (x : Cell). CellGranted i e w x.word) (sym new) tt
    | inr old ↦ cells w c old
  ]
  pages_granted m (Remove page) cells w c at = cells w c (unmap_cases m page w c at)

  pub change_cells : (m : Memory) (c : Change) → CellsGranted i e m → CellWritten i e m g c.cell → CellsGranted i e (memory_after m c)
  unfolding memory_after
  change_cells m c cells h = pages_granted (with_cell m c.cell) c.pages (cell_granted m c.cell cells h)

  pub change_changed : (m : Memory) (c : Change) → CellWritten i e m g c.cell → PagesGranted i e g c.pages → ChangedBy i e g m (memory_after m c)
  unfolding memory_after
  change_changed m c h k = then_changed m (with_cell m c.cell) (with_pages (with_cell m c.cell) c.pages) (cell_changed m c.cell h) (pages_changed (with_cell m c.cell) c.pages k)

-- 3. What a change leaves.

each_put_all : (P : Word → Type 0) (regs : List Word) (ws : List (ℕ × Word)) → AllByRecursion P regs → AllByRecursion (λ (w : ℕ × Word). P w.1) ws → AllByRecursion P (put_all regs ws)
each_put_all P regs [] h k = h
each_put_all P regs (w ∷ ws) h k = each_put_all P (slice_set regs w.0 w.1) ws (each_set P regs w.0 w.1 h k.0) k.1

-- the entry that a change does
abbrev pub new_entry : ℕ → Option Pointer → List (ℕ × Pointer)
new_entry g None = []
new_entry g (Some p) = (g, p) ∷ []

next_later : (i : Image) (e : Entries) (g : ℕ) (next : Pointer) (o : Option Pointer) → NextGranted i e g next o → Grants i (with_entries e (new_entry g o)) g next
next_later i e g next None h = grants_grow i e (with_entries e []) (with_entries-grow e []) _ _ h
next_later i e g next (Some p) h = Grants.entered p (grants_grow i e (with_entries e ((g, p) ∷ [])) (with_entries-grow e ((g, p) ∷ [])) _ _ h.granted) h.enters (with_entry-last e g p) h.form

module _ (i : Image) (e : Entries) (core : Core) (m : Memory) (st : Stands i e core m) (s : Slot) (at : slot_at core s.number ≡ Some s) where
  module _ (c : Change) (g : ChangeGranted i e core m s c) where
    abbrev later : Entries
    later = with_entries e (new_entry s.group c.entered)

    grow : Grow e later
    grow = with_entries-grow e (new_entry s.group c.entered)

    begins : Good i later core core
    begins = record { same = refl; rises = st.formed.rising; rows = rows_grow i e later grow core.rows st.rows }

    own_after : SlotGranted i later (slot_after s c)
    unfolding slot_after
    own_after = by c.issue g.issue
      where
        own : SlotGranted i later s
        own = slot_grows i e later grow s (slot_granted i e core st.rows s.number s at)

        regs : AllByRecursion (WordGranted i later s.group) (put_all s.regs c.writes)
        regs =
            each_put_all (WordGranted i later s.group) s.regs c.writes own.registers
            (each_map (λ (w : ℕ × Word). WordGranted i e s.group w.1) (λ (w : ℕ × Word). WordGranted i later s.group w.1) (λ w k. word_grows i e later grow s.group w.1 k) c.writes g.writes)

        by : (o : Option Pending) → IssueGranted i e s.group o → SlotGranted i later
            (with_issue (record s {
              regs = put_all s.regs c.writes;
              ip = c.next;
              past = c.past;
              turns = s.turns + 1;
              state = state_after c.halts;
            }) o)
        by None k = record { registers = regs; ip = next_later i e s.group c.next c.entered g.next; pending = own.pending }
        by (Some p) k = record {
          registers = regs;
          ip = next_later i e s.group c.next c.entered g.next;
          pending = each_push (λ (x : Pending). WordGranted i later s.group x.word) s.pending p own.pending (word_grows i e later grow s.group p.word k);
        }

    other_good : (o : Option Slot) → OtherSlot i e core s.number o → Good i later core (with_other core o)
    other_good None k = begins
    other_good (Some o) k =
        let number = slot_at-number core o.number k.old k.stands in
        let group = k.group in
        let handler = k.handler in
        put_slot-good i later core core begins o k.old k.stands (cc) (slot_grows i e later grow o k.granted)

    own_good : (mid : Core) → Good i later core mid → Good i later core (put_slot mid (slot_after s c))
    own_good mid good =
        put_slot-good i later core mid good (slot_after s c) s (ap (slot_at core) (changed_from s c).number ∙ at) (changed_identity s c) own_after

    queue_good : (mid : Core) → Good i later core mid → (q : Option (List Event)) → QueueGranted i e s.group q → Good i later core (with_queue mid s.number q)
    queue_good mid good None k = good
    queue_good mid good (Some q) k = put_queue-good i later core mid good s.number s q at
        (each_map (EventGranted i e s.group) (EventGranted i later s.group) (λ x j. event_grows i e later grow s.group x
        j) q k)

    byte_good : (mid : Core) → Good i later core mid → (o : Option ℕ) → Good i later core (with_out mid s.group o)
    unfolding put_output
    byte_good mid good None = good
    byte_good mid good (Some byte) = record { same = good.same; rises = good.rises; rows = good.rows }

    pub change_good : Good i later core (core_after core s c)
    unfolding core_after
    change_good =
        byte_good (with_queue (put_slot (with_other core c.other) (slot_after s c)) s.number c.queue)
        (queue_good (put_slot (with_other core c.other) (slot_after s c)) (own_good (with_other core c.other) (other_good c.other g.other)) c.queue g.queue) c.out

    own_there : slot_at (put_slot (with_other core c.other) (slot_after s c)) s.number ≡ Some (slot_after s c)
    own_there =
        let number = (changed_from s c).number in
        let was = stays_by core (with_other core c.other) s.number s (other_good c.other g.other).same at in
        ap (slot_at (put_slot (with_other core c.other) (slot_after s c))) (sym number)
        ∙ slot_at-put_same (with_other core c.other) (slot_after s c) was.now (ap (slot_at (with_other core c.other)) number ∙ was.is)

    queue_there : (mid : Core) (q : Option (List Event)) → slot_at (with_queue mid s.number q) s.number ≡ slot_at mid s.number
    queue_there mid None = refl
    queue_there mid (Some q) = slot_at-put_queue mid s.number q s.number

    byte_there : (mid : Core) (o : Option ℕ) → slot_at (with_out mid s.group o) s.number ≡ slot_at mid s.number
    unfolding put_output slot_at
    byte_there mid None = refl
    byte_there mid (Some byte) = refl

    -- the slot as it is left stands at its number
    pub left_at : slot_at (core_after core s c) s.number ≡ Some (slot_after s c)
    unfolding core_after
    left_at =
        byte_there (with_queue (put_slot (with_other core c.other) (slot_after s c)) s.number c.queue) c.out
        ∙ queue_there (put_slot (with_other core c.other) (slot_after s c)) c.queue
        ∙ own_there

-- 4. Touches.

each_touch : (P : AccessValue → Type 0) (o p : Option AccessValue) → IfSome o P → IfSome p P → AllByRecursion P (option_to_list o ++ option_to_list p)
each_touch P None None h k = tt
each_touch P None (Some t) h k = (k, tt)
each_touch P (Some f) None h k = (h, tt)
each_touch P (Some f) (Some t) h k = (h, (k, tt))

touch_through : (i : Image) (e : Entries) (g : ℕ) (w : Word) (kind : Kind) (t : AccessValue) → WordGranted i e g w → Checked w kind t → TouchGranted i e g t
touch_through i e g w kind t h ok =
    record { by = t.ptr; granted = subst (WordGranted i e g) ok.is h; right = ok.granted.right; covers = ok.granted.inside; aligned = ok.granted.aligned; below = ok.granted.below }

reach_touch : (i : Image) (e : Entries) (g : ℕ) (w : Word) (kind : Kind) (pre : Pre) (r : Result AccessValue Cause)
    → WordGranted i e g w → ((t : AccessValue) → r ≡ Ok t → Checked w kind t) → IfSome (touch_of (reaching r pre))
    (TouchGranted i e g)
reach_touch i e g w kind pre (Err c) h ok = tt
reach_touch i e g w kind pre (Ok t) h ok = touch_through i e g w kind t h (ok t refl)

page_touch : (P : AccessValue → Type 0) (a : Ask) (b c : Bool) → touch_of a ≡ None → IfSome (touch_of (if b then (if c then a else Refuse Bounds) else Refuse Priv)) P
page_touch P a true true none = subst (λ o. IfSome o P) (sym none) tt
page_touch P a true false none = tt
page_touch P a false c none = tt

module _ (i : Image) (e : Entries) (core : Core) (m : Memory) (st : Stands i e core m) (s : Slot) (at : slot_at core s.number ≡ Some s) where
  pub fetch_granted : (f : AccessValue) → Fetches s f → TouchGranted i e s.group f
  fetch_granted f aim =
      touch_through i e s.group (Ptr s.ip) Fetch f (slot_granted i e core st.rows s.number s at).ip (checked (Ptr s.ip) (pos 0) Fetch f (slot_words core s.number s st.words at).ip aim)

  fetches_granted : (f : Option AccessValue) → IfSome f (Fetches s) → IfSome f (TouchGranted i e s.group)
  fetches_granted None aim = tt
  fetches_granted (Some f) aim = fetch_granted f aim

  pub touch_granted : (instr : Instr) → IfSome (touch_of (ask instr s)) (TouchGranted i e s.group)
  unfolding ask
  touch_granted (Ld rd ra pre post imm) =
      reach_touch i e s.group (register s ra) (load_kind post) pre (check_result (register s ra) imm (load_kind post))
      (reg i e core m st s at ra) (λ t is. checked (register s ra) imm (load_kind post) t
      (word_at i e core m st s at ra) is)
  touch_granted (St ra rb pre post imm) =
      reach_touch i e s.group (register s ra) Store pre (check_result (register s ra) imm Store)
      (reg i e core m st s at ra) (λ t is. checked (register s ra) imm Store t (word_at i e core m st s at ra) is)
  touch_granted (Map rd ra) = page_touch (TouchGranted i e s.group) (MapPage (word_bits (register s ra))) (is_privileged s.ip.perm) (nat_lt (word_bits (register s ra)) (2 ^ 42)) refl
  touch_granted (Unmap rd ra) = page_touch (TouchGranted i e s.group) (UnmapPage (word_bits (register s ra))) (is_privileged s.ip.perm) (nat_lt (word_bits (register s ra)) (2 ^ 42)) refl
  touch_granted _ = tt

-- 5. The turn.

-- what is granted of a turn, as the law says it
pub record TurnGranted (i : Image) (e : Entries) (m : Memory) (t : Turned) : Type 0 where
  pub rows : AllByRecursion (RowGranted i (with_entries e (done_entry t t.step.entered))) t.core.rows
  pub cells : CellsGranted i (with_entries e (done_entry t t.step.entered)) t.memory
  pub touched : AllByRecursion (TouchGranted i e (group_in t)) (touches t.step)
  pub entered : IfSome t.step.entered (EntryGranted i e t)
  pub changed : ChangedBy i e (group_in t) m t.memory

module _ (i : Image) (e : Entries) (core : Core) (m : Memory) (st : Stands i e core m) where
  -- nothing is entered and no cell changes
  still : (t : Turned) (g : ℕ) → Good i e core t.core → t.memory ≡ m → t.step.entered ≡ None → group_in t ≡ g → AllByRecursion (TouchGranted i e g) (touches t.step) → TurnGranted i e m t
  still t g good memory none group touched =
      let more : Grow e (with_entries e (done_entry t t.step.entered)) = with_entries-grow e (done_entry t t.step.entered) in
      record {
        rows = rows_grow i e (with_entries e (done_entry t t.step.entered)) more t.core.rows good.rows;
        cells = subst (CellsGranted i (with_entries e (done_entry t t.step.entered))) (sym memory) (cells_grow i e (with_entries e (done_entry t t.step.entered)) more m st.cells);
        touched = subst (λ k. AllByRecursion (TouchGranted i e k) (touches t.step)) (sym group) touched;
        entered = subst (λ o. IfSome o (EntryGranted i e t)) (sym none) tt;
        changed = λ w. inl (ap (λ x. cell_at x w) memory);
      }

  same_self : Good i e core core
  same_self = record { same = refl; rises = st.formed.rising; rows = st.rows }

  module _ (s : Slot) (at : slot_at core s.number ≡ Some s) where
    own_slot_granted : SlotGranted i e s
    own_slot_granted = slot_granted i e core st.rows s.number s at

    -- the group of a turn of the slot
    group_is : (t : Turned) → identities_of t.core ≡ identities_of core → t.step.slot ≡ s.number → group_in t ≡ s.group
    group_is t same number =
        let now = stays_by core t.core s.number s same at in
        ap (λ n. group_of (slot_at t.core n)) number ∙ ap group_of now.is ∙ ap (λ (x : ℕ × ℕ × Option ℕ). x.1) now.same

    stood_good : (mid : Core) → Good i e core mid → (now : Slot) (state : SlotState) → identity_of s ≡ identity_of now → SlotGranted i e now → Good i e core (put_slot mid (stood now state))
    stood_good mid good now state same own =
        put_slot-good i e core mid good (stood now state) s
        (ap (slot_at core) (sym (ap (λ (x : ℕ × ℕ × Option ℕ). x.0) same)) ∙ at) same
        (record { registers = own.registers; ip = own.ip; pending = own.pending })

    fault_good : (c : Cause) (a v : Word) (o : Option ℕ) → s.handler ≡ o → WordGranted i e s.group a → WordGranted i e s.group v → Good i e core (core_faulted core s (event_of s c a v) o)
    unfolding core_faulted event_of
    fault_good c a v None is ga gv = by (is_sync c)
      where
        by : (b : Bool) → Good i e core (if b then put_slot core (stood s Running) else put_slot core (stood s (Halted (Some c))))
        by true = stood_good core same_self s Running refl own_slot_granted
        by false = stood_good core same_self s (Halted (Some c)) refl own_slot_granted
    fault_good c a v (Some g) is ga gv =
        let waits : Core = put_slot core (stood s Waiting) in
        let good : Good i e core waits = stood_good core same_self s Waiting refl own_slot_granted in
        let handlers = slot_has (λ (x : Slot). IfSome x.handler (IsOther (slots_of core) x.number)) core s.number s st.fitting.handlers at in
        let other = other_at core st.formed.rising s.number g (subst (λ p. IfSome p (IsOther (slots_of core) s.number)) is handlers) in
        let h : Slot = other.1.0 in
        let number : h.number ≡ g = slot_at-number core g h other.1.1 in
        let sv = serving i core st.same s.number g s h at other.1.1 (is ∙ ap (λ (k : ℕ). Some k) (sym number)) in
        put_queue-good i e core waits good g h (queue_at waits g ++ event_of s c a v ∷ []) other.1.1
        (each_push (EventGranted i e h.group) (queue_at waits g) (event_of s c a v) (good_queue i e core waits good g h other.1.1)
        (record { ip = Grants.served s.group own_slot_granted.ip sv.here; address = word_served i e h.group s.group a ga sv.here; value = word_served i e h.group s.group v gv sv.here }))

    faulted_granted : (c : Cause) (a v : Word) (f t : Option AccessValue) (us : List Use) → WordGranted i e s.group a
        → WordGranted i e s.group v → IfSome f (TouchGranted i e s.group) → IfSome t (TouchGranted i e s.group)
        → TurnGranted i e m (faulted core m s c a v f t us)
    unfolding faulted
    faulted_granted c a v f t us ga gv gf gt =
        let good = fault_good c a v s.handler refl ga gv in
        still (faulted core m s c a v f t us) s.group good refl refl (group_is (faulted core m s c a v f t us) good.same refl) (each_touch (TouchGranted i e s.group) f t gf gt)

    blocked_granted : (mid : Core) → Good i e core mid → (now : Slot) → identity_of s ≡ identity_of now
        → SlotGranted i e now → (f : AccessValue) (t : Option AccessValue) (us : List Use) → TouchGranted i e s.group f
        → IfSome t (TouchGranted i e s.group)
        → TurnGranted i e m (blocked mid m now f t us)
    unfolding blocked
    blocked_granted mid good now same own f t us gf gt =
        let after = stood_good mid good now Running same own in
        still (blocked mid m now f t us) s.group after refl refl (group_is (blocked mid m now f t us) after.same
        (sym (ap (λ (x : ℕ × ℕ × Option ℕ). x.0) same))) (each_touch (TouchGranted i e s.group) (Some f) t gf gt)

    module _ (c : Change) (g : ChangeGranted i e core m s c) (f : AccessValue) (t : Option AccessValue) (us : List Use) where
      abbrev did : Turned
      did = record { core = core_after core s c; memory = memory_after m c; step = record { tick = Did; slot = s.number; fetched = Some f; touched = t; entered = c.entered }; uses = us }

      did_good : Good i (with_entries e (new_entry s.group c.entered)) core (core_after core s c)
      did_good = change_good i e core m st s at c g

      did_group : group_in did ≡ s.group
      did_group = group_is did did_good.same refl

      did_entries : done_entry did c.entered ≡ new_entry s.group c.entered
      did_entries = by c.entered
        where
          by : (o : Option Pointer) → done_entry did o ≡ new_entry s.group o
          by None = refl
          by (Some p) = ap (λ k. (k, p) ∷ []) did_group

      did_entered : IfSome c.entered (EntryGranted i e did)
      did_entered = by c.entered g.next
        where
          by : (o : Option Pointer) → NextGranted i e s.group c.next o → IfSome o (EntryGranted i e did)
          by None k = tt
          by (Some p) k = record {
            enters = k.enters;
            granted = subst (λ h. Grants i e h p) (sym did_group) k.granted;
            slot = slot_after s c;
            stands = left_at i e core m st s at c g;
            goes_on = k.form ∙ ap (λ (q : Pointer). Some q) (sym (changed_from s c).ip);
          }

      did_granted : TouchGranted i e s.group f → IfSome t (TouchGranted i e s.group) → TurnGranted i e m did
      did_granted gf gt =
          let more : Grow e (with_entries e (done_entry did c.entered)) = with_entries-grow e (done_entry did c.entered) in
          record {
            rows = subst (λ es. AllByRecursion (RowGranted i (with_entries e es)) (core_after core s c).rows) (sym did_entries) did_good.rows;
            cells = cells_grow i e (with_entries e (done_entry did c.entered)) more (memory_after m c) (change_cells i e s.group m c st.cells g.cell);
            touched = subst (λ h. AllByRecursion (TouchGranted i e h) (touches did.step)) (sym did_group) (each_touch (TouchGranted i e s.group) (Some f) t gf gt);
            entered = did_entered;
            changed = subst (λ h. ChangedBy i e h m (memory_after m c)) (sym did_group) (change_changed i e s.group m c g.cell g.pages);
          }

    ended_granted : (instr : Instr) (f : AccessValue) (t : Option AccessValue) (us : List Use) (x : Effect) → EffectGranted i e core
        m s x → TouchGranted i e s.group f → IfSome t (TouchGranted i e s.group) → TurnGranted i e m
        (ended core m s instr f t us x)
    unfolding ended
    ended_granted instr f t us (Fault c) g gf gt = faulted_granted c (addr_operand instr s) (value_operand instr s)
        (Some f) t us (addr_operand-granted i e core m st s at instr) (value_operand-granted i e core m st s at instr)
        gf gt
    ended_granted instr f t us Block g gf gt = blocked_granted core same_self s refl own_slot_granted f t us gf gt
    ended_granted instr f t us (Deliver o) g gf gt =
        let number = slot_at-number core o.number g.old g.stands in
        let group = g.group in
        let handler = g.handler in
        blocked_granted (put_slot core o) (put_slot-good i e core core same_self o g.old g.stands (cc) g.granted) s refl own_slot_granted f t us gf gt
    ended_granted instr f t us (Do c) g gf gt = did_granted c g f t us gf gt

    lacking_granted : (f : AccessValue) (us : List Use) → Fetches s f → TurnGranted i e m (blocked core m (delivered s) f None us)
    lacking_granted f us aim = blocked_granted core same_self (delivered s) (delivered_identity s) (delivered_granted i e s own_slot_granted) f None us (fetch_granted i e core m st s at f aim) tt

    executed_granted : (f : AccessValue) (u : Use) (instr : Instr) → Fetches s f → TurnGranted i e m (executed core m s f u instr)
    unfolding executed
    executed_granted f u instr aim =
        ended_granted instr f (touch_of (ask instr s)) (u ∷ asked_use m (ask instr s))
        (effect core.split instr s (reply core m s.number (ask instr s))) (effect_granted i e core m st s at instr)
        (fetch_granted i e core m st s at f aim)
        (touch_granted i e core m st s at instr)

    arrived_granted : (p : Pending) (rest : List Pending) → s.pending ≡ p ∷ rest → TurnGranted i e m (arrives core m s (p ∷ rest))
    arrived_granted p rest is =
        let good = put_slot-good i e core core same_self (delivered s) s (ap (slot_at core) (delivered_from s).number ∙ at) (delivered_identity s) (delivered_granted i e s own_slot_granted) in
        still (arrives core m s (p ∷ rest)) s.group good refl refl (group_is (arrives core m s (p ∷ rest)) good.same refl) tt

  idle_granted : (n : ℕ) → TurnGranted i e m (idle core m n)
  unfolding idle
  idle_granted n = still (idle core m n) (group_in (idle core m n)) same_self refl refl refl tt

  pub turn_granted : (n : ℕ) → TurnGranted i e m (turn core m n)
  turn_granted n = turn_by core m n (TurnGranted i e m) (record {
    idles = λ k none. idle_granted k;
    arrives_at = λ s p rest free port is. arrived_granted s port.at p rest is;
    starts = λ s r own. started_one core m s (TurnGranted i e m) (record {
      faults = λ c f done aim. faulted_granted s own c (Int 0) (Int 0) f None (fetch_uses f done) tt tt (fetches_granted i e core m st s own f aim) tt;
      lacks_register = λ f instr aim is lacking. lacking_granted s own f (fetch_use f ∷ []) aim;
      carries_out = λ f instr aim is has. executed_granted s own f (fetch_use f) instr aim;
    });
  })

-- 6. The laws.

pub stands_of : (i : Image) (e : Entries) (s : State) → IsImage i → IsState s → Fits i s → WordsGranted i e s → Stands i e s.core s.memory
stands_of i e s img h fits words = record { formed = h.core; fitting = fitting_of i s img fits; same = fits.same_slots; words = h.rows; rows = words.rows; cells = words.cells }

-- one turn
pub step_granted : (i : Image) (e : Entries) (s : State) (n : ℕ) → IsImage i → IsState s → Fits i s → WordsGranted i e s → StepGranted i e s n
unfolding after
step_granted i e s n img h fits words =
    let t = turn_granted i e s.core s.memory (stands_of i e s img h fits words) n in
    record {
      state = after_state s n h;
      fits = after_fits i s n img h fits;
      words = record { rows = t.rows; cells = t.cells };
      touched = t.touched;
      entered = t.entered;
      changed = t.changed;
    }
