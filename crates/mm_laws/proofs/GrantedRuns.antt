-- Whole runs, by induction over the list of items.
use Rattle.std.proofs.Common.{◌≡◌, ℕ, suc, true, List, [], ◌∷◌, ◌++◌, map, Some, refl, sym, ap, ◌∙◌, subst, inl, arith}
use Rattle.std.{proofs.Common.{append_assoc, append-nil}, specs.{Prelude.{Contains, IfSome}, List.AllByRecursion}}
use Rattle.mm_word.specs.{declared.word.{Word.{Word, TheVariants.{Int, Ptr}}, Cell.Cell}, Pointer.Pointer}
use Rattle.mm_model.specs.{declared.{slot.Pending.Pending, event.Event.Event}, Memory.cell_at, Slot.Slot}
use Rattle.mm_model.specs.{State.{State, slot_at, queue_at}, Image.{Image, slot_limit, start}}
use Rattle.mm_model.specs.{Spelling.{IsOther, IsFresh, IsImage}, Fits.{is_waiting, slots_of, IsState, Fits}}
use Rattle.mm_model.specs.{Run.{turn_of, after, run}, Trace.{done_entry, entries}}
use Rattle.mm_model.specs.Reach.{Entries, Grants, Entries.{All, These}}
use Rattle.mm_model.proofs.CoreRows.{each_map, each_both, each_contained, slot_at-number, slot_has, other_at}
use Rattle.mm_model.proofs.{CoreSteps.queued_waits, Fitted.image_handlers, Starts.{start_state, start_fits}}
use Rattle.mm_laws.specs.Granted.{WordGranted, SlotGranted, EventGranted, RowGranted, CellGranted, WordsGranted}
use Rattle.mm_laws.specs.Granted.{RunGranted, with_entries}
use Rattle.mm_laws.proofs.{GrantedWords.{queue_granted, serving, word_served}, GrantedTurns.step_granted}

-- each element of a list is contained in it
pub each_in : {A : Type 0} (xs : List A) → AllByRecursion (Contains xs) xs
each_in [] = tt
each_in (x ∷ xs) = (
  (0, omega arith, refl),
  each_map (Contains xs) (Contains (x ∷ xs)) (λ y c. (suc c.0, omega (arith, c.1), c.2)) xs (each_in xs),
)

module _ (i : Image) (img : IsImage i) (e : Entries) where
  held_word : (s : Slot) → Contains i.slots s → (x : Word) → Contains s.regs x → WordGranted i e s.group x
  held_word s is (Int bits) h = tt
  held_word s is (Ptr q) h = Grants.in_register s is refl h

  fresh_granted : (s : Slot) → Contains i.slots s → IsFresh (slot_limit i.version) i.slots s → SlotGranted i e s
  fresh_granted s is fresh = record {
    registers = each_map (Contains s.regs) (WordGranted i e s.group) (held_word s is) s.regs (each_in s.regs);
    ip = Grants.runs_by s is refl refl;
    pending = subst (AllByRecursion (λ (p : Pending). WordGranted i e s.group p.word)) (sym fresh.pending) tt;
  }

  rows_begin : (slots : List Slot) → AllByRecursion (SlotGranted i e) slots → AllByRecursion (RowGranted i e) (map (λ (s : Slot). record { slot = s; queue = [] }) slots)
  rows_begin [] h = tt
  rows_begin (s ∷ slots) h = (record { slot = h.0; events = tt }, rows_begin slots h.1)

  own_cell : (w : ℕ) (c : Cell) (x : Word) → cell_at i.memory w ≡ Some c → c.word ≡ x → CellGranted i e w x
  own_cell w c (Int bits) is holds = tt
  own_cell w c (Ptr q) is holds = inl (record { cell = c; stands = is; holds = holds })

  pub start_granted : WordsGranted i e (start i)
  unfolding start
  start_granted = record {
    rows = rows_begin i.slots (each_both (Contains i.slots) (IsFresh (slot_limit i.version) i.slots) (SlotGranted i e) fresh_granted i.slots (each_in i.slots) img.fresh);
    cells = λ w c is. own_cell w c c.word is refl;
  }

-- the state after a list of items, under the entries that were done in them
pub run_granted : (i : Image) (e : Entries) (s : State) (items : List ℕ) → IsImage i → IsState s → Fits i s
    → WordsGranted i e s → IsState (run s items) × Fits i (run s items)
    × WordsGranted i (with_entries e (entries s items)) (run s items)
unfolding run entries
run_granted i e s [] img h fits words = (h, fits, with_none i e s words)
  where
    with_none : (i : Image) (e : Entries) (s : State) → WordsGranted i e s → WordsGranted i (with_entries e []) s
    with_none i All s h = h
    with_none i (These list) s h = subst (λ l. WordsGranted i (These l) s) (sym (append-nil list)) h
run_granted i e s (n ∷ items) img h fits words =
    let step = step_granted i e s n img h fits words in
    let rest = run_granted i (with_entries e (done_entry (turn_of s n) (turn_of s n).step.entered)) (after s n) items img step.state step.fits step.words in
    (rest.0, rest.1, subst (λ f. WordsGranted i f (run (after s n) items)) (with_both e (done_entry (turn_of s n) (turn_of s n).step.entered) (entries (after s n) items)) rest.2)
  where
    with_both : (e : Entries) (xs ys : List (ℕ × Pointer)) → with_entries (with_entries e xs) ys ≡ with_entries e (xs ++ ys)
    with_both All xs ys = refl
    with_both (These list) xs ys = ap (λ l. These l) (append_assoc list xs ys)

pub runs_granted : (i : Image) (items : List ℕ) → IsImage i → RunGranted i (These (entries (start i) items)) (run (start i) items)
runs_granted i items img =
    let all = run_granted i (These []) (start i) items img (start_state i img) (start_fits i img) (start_granted i img (These [])) in
    record {
      words = all.2;
      next = λ n. step_granted i (These (entries (start i) items)) (run (start i) items) n img all.0 all.1 all.2;
    }

-- a queued event is granted to the group of its own slot too, since its handler's group serves that
pub events_granted : (i : Image) (e : Entries) (s : State) → IsImage i → IsState s → Fits i s → WordsGranted i e s → (h : ℕ)
    → AllByRecursion (λ (event : Event). (of : Slot) → slot_at s.core event.slot ≡ Some of → EventGranted i e of.group event) (queue_at s.core h)
events_granted i e s img state fits words h =
    each_map (Contains (queue_at s.core h)) (λ (event : Event). (of : Slot) → slot_at s.core event.slot ≡ Some of →
    EventGranted i e of.group event) one (queue_at s.core h) (each_in (queue_at s.core h))
  where
    one : (event : Event) → Contains (queue_at s.core h) event → (of : Slot) → slot_at s.core event.slot ≡ Some of → EventGranted i e of.group event
    one event among of at =
        let waits = each_contained (λ (x : Event). x.slot ≡ event.slot → (is_waiting of.state ≡ true)
        × (of.handler ≡ Some h)) (queue_at s.core h) event (queued_waits s.core fits.matched event.slot of at h)
        among refl in
        let handlers = slot_has (λ (x : Slot). IfSome x.handler (IsOther (slots_of s.core) x.number)) s.core event.slot of (image_handlers i s.core img fits.same_slots) at in
        let other = other_at s.core state.core.rising of.number h (subst (λ o. IfSome o (IsOther (slots_of s.core) of.number)) waits.1 handlers) in
        let server : Slot = other.1.0 in
        let number : server.number ≡ h = slot_at-number s.core h server other.1.1 in
        let sv = (serving i s.core fits.same_slots event.slot h of server at other.1.1 (waits.1 ∙ ap (λ (k : ℕ). Some k) (sym number))).there in
        let granted = each_contained (EventGranted i e server.group) (queue_at s.core h) event (queue_granted i e s.core words.rows h server other.1.1) among in
        record {
          ip = Grants.served server.group granted.ip sv;
          address = word_served i e of.group server.group event.addr_op granted.address sv;
          value = word_served i e of.group server.group event.value_op granted.value sv;
        }
