-- The laws: by induction over the list of items.
use Rattle.std.proofs.Common.{◌≡◌, ℕ, suc, ◌<◌, ◌⊎◌, inl, inr, Bool, true, false, ◌&&◌, not, if◌then◌else◌, List, []}
use Rattle.std.proofs.Common.{◌∷◌, map, length, slice_index_or, Some, refl, sym, ap, ◌∙◌, subst, arith}
use Rattle.std.proofs.lemmas.Bool.{and_parts, and_from, or_right, or_parts, not-true}
use Rattle.std.specs.{Prelude.Contains, List.{AllByRecursion, AllZip, list_all}}
use Rattle.mm_word.specs.declared.perm.Perm.{Perm, TheVariants.{Ro, Rw, Xu, Xp, Eu, Ep, Key}}
use Rattle.mm_word.specs.{declared.word.Word.{Word, TheVariants.{Int, Ptr}}, Perm.can_fetch}
use Rattle.mm_model.specs.declared.slot.SlotState.{SlotState, TheVariants.{Running, Waiting, Taken, Halted}}
use Rattle.mm_model.specs.{declared.{slot.Pending.Pending, event.Event.Event}, Slot.{Slot, register, is_empty}}
use Rattle.mm_model.specs.{State.{ThreadRow, State, slot_at}, Image.{Image, slot_limit, start}}
use Rattle.mm_model.specs.{Spelling.{IsFresh, IsImage}, Flags.one_if}
use Rattle.mm_model.specs.Fits.{IsSlot, IsState, LoadsMatch, LoadsAreConsistent, IsConsistent, loads_for}
use Rattle.mm_model.specs.{Fits.Fits as FitsImage, Turn.is_running, Run.{turn_of, after, run}}
use Rattle.mm_model.proofs.CoreRows.{each_map, each_both, each_contained, slot_has, slots_found, out_of_map}
use Rattle.mm_model.proofs.{EffectWords.{slot_words, register_fits}, StateKeeps.{after_state, after_fits, after_kept}}
use Rattle.mm_model.proofs.{Starts.{start_state, start_fits, start_kept}, Filters.contained_filter}
use Rattle.mm_kernel.specs.Segments.{Segment, is_kept, is_fixed, meets, is_open, running_slots, runs_privileged}
use Rattle.mm_kernel.specs.declared.{fact.Handling.Handling, form.Form.TheVariants.Any, thread.Thread.Thread}
use Rattle.mm_kernel.specs.Forms.{exactly, is_open_form}
use Rattle.mm_kernel.specs.Threads.{form_in, with_form, has_open_words, is_kernel_slot, is_kernel, serves_some, is_free}
use Rattle.mm_kernel.specs.{Threads.{own_thread, thread_through, handler_of}, Facts.{take_up, Fact.HasEvent}}
use Rattle.mm_kernel.specs.{Turns.with_event, Derived.{Derived, Keeps}}
use Rattle.mm_kernel.specs.Derived.Derived.{begins_in_slot, enters, turns, loads, takes, resumes, reads_served}
use Rattle.mm_kernel.specs.Variants.{IsShared, is_caller, IsAnyCaller, IsVariantSlot, Variant}
use Rattle.mm_kernel.specs.Laws.{SlotShares, EventShares, is_of_kernel, ServedByOthers, RowKept, StateKept}
use Rattle.mm_kernel.proofs.Owns.{Who, Who.Callers, Mode, Mode.{AsAnyone, AsKernel}, World, Up, IfPointer, Mine, Left}
use Rattle.mm_kernel.proofs.{Owns.SeenBy, Values.{Fits, shared_int, public_shared, holds_stands, holds_exactly, Public}}
use Rattle.mm_kernel.proofs.Ups.{Free, Bound, free_form, up_cases, Next, each_in, each_from}
use Rattle.mm_kernel.proofs.Slots.{guards, Held, Match, Why, StoppedOk, SlotOkAs}
use Rattle.mm_kernel.proofs.{Cores.{any_event, EventOk, RowOk, RowsOk, HeldIn, WordOkAs, MemOk}, Rows.Machine}
use Rattle.mm_kernel.proofs.Turned.{TurnOk, turn_ok}
use Rattle.mm_kernel.proofs.Start.{Begun, start_rows, start_cells, live_user, cell_shared}
use Rattle.mm_kernel.specs.declared.outcome.Outcome.TheVariants as outcome

-- 1. What holds of each state of a run.

one_if_zero : (b : Bool) → one_if b ≡ 0 → b ≡ false
one_if_zero true e = absurd (omega arith)
one_if_zero false e = refl

each_index : {A : Type 0} (P : A → Type 0) (xs : List A) (d : A) → ((r : ℕ) → r < length xs → P (slice_index_or xs r d)) → AllByRecursion P xs
each_index P [] d f = tt
each_index P (x ∷ xs) d f = (f 0 (omega arith), each_index P xs d (λ r lt. f (suc r) (omega arith)))

module _ (i j : Image) (kept : List Segment) (img : IsImage i) (jmg : IsImage j) (ks : Keeps i kept) (v : Variant i kept j) (wd : World i kept) (bg : Begun i j kept wd) where
  pub record Holding (s : State) : Type 0 where
    pub state : IsState s
    pub fits : FitsImage j s
    pub keeps : IsConsistent s.core
    pub rows : RowsOk i kept wd s.core
    pub cells : MemOk i kept wd s.memory

  slot_is : (s : State) → Holding s → (n : ℕ) (of : Slot) → slot_at s.core n ≡ Some of → IsSlot of
  slot_is s h n of at = slot_has IsSlot s.core n of h.state.core.slots at

  loads_are : (s : State) → Holding s → (n : ℕ) (of : Slot) → slot_at s.core n ≡ Some of → LoadsMatch of
  loads_are s h n of at = slot_has LoadsMatch s.core n of h.fits.matched.loads at

  pub machine : (s : State) → Holding s → Machine i kept wd s.core s.memory
  machine s h = record {
    rows = h.rows;
    cells = h.cells;
    sound = λ n of at. record { registers = (slot_is s h n of at).registers; flags = (slot_is s h n of at).flags; loads = loads_are s h n of at };
    mode = λ e n of r at.
        let loads = slot_has (LoadsAreConsistent s.core.split) s.core n of h.keeps.loads at in
        let none : of.pending ≡ [] = loads.mode e in
        one_if_zero (is_empty of r) (sym ((loads_are s h n of at).each r) ∙ ap (loads_for r) none);
    runs = λ n of at. (slot_is s h n of at).executable;
    words = λ n of r at. register_fits of r (slot_words s.core n of h.state.rows at).registers;
    matched = h.fits.matched;
  }

  pub turns_ok : (s : State) (h : Holding s) (n : ℕ) → TurnOk i kept wd ks s.core s.memory (machine s h) (λ n of at. (slot_words s.core n of h.state.rows at).ip) (turn_of s n)
  turns_ok s h n = turn_ok i kept wd ks s.core s.memory (machine s h) (λ n of at. (slot_words s.core n of h.state.rows at).ip) n

  pub after_holds : (s : State) (n : ℕ) → Holding s → Holding (after s n)
  unfolding after
  after_holds s n h =
      let t = turns_ok s h n in
      record {
        state = after_state s n h.state;
        fits = after_fits j s n jmg h.state h.fits;
        keeps = after_kept j s n jmg h.state h.fits h.keeps;
        rows = t.rows;
        cells = t.cells;
      }

  pub run_holds : (items : List ℕ) (s : State) → Holding s → Holding (run s items)
  unfolding run
  run_holds [] s h = h
  run_holds (n ∷ items) s h = run_holds items (after s n) (after_holds s n h)

  pub start_holds : Holding (start j)
  start_holds = record {
    state = start_state j jmg;
    fits = start_fits j jmg;
    keeps = start_kept j jmg.rising jmg.fresh;
    rows = start_rows i j kept img jmg ks v wd bg;
    cells = start_cells i j kept img jmg ks v wd bg;
  }

  -- 2. What that says.

  module _ (s : State) (h : Holding s) where
    -- a slot whose thread is free shares its words
    free_shares : (n : ℕ) (of : Slot) (d : Mode) (t : Thread) → slot_at s.core n ≡ Some of → Free i kept t → Match i kept wd d t of → SlotShares i kept of
    unfolding register
    free_shares n of d t at free m = record {
      registers = each_index (IsShared i kept) of.regs (Int 0) (λ r lt. word r (is_empty of r) refl);
      pending = each_map (λ (p : Pending). Fits i kept (Held i kept wd d t of) (form_in t p.reg) p.word) (λ (p : Pending). IsShared i kept p.word)
          (λ p f. public_shared i kept (form_in t p.reg) p.word (free_form i kept t free p.reg) f.holds) of.pending m.pending;
    }
      where
        word : (r : ℕ) (b : Bool) → is_empty of r ≡ b → IsShared i kept (register of r)
        word r false e = public_shared i kept (form_in t r) (register of r) (free_form i kept t free r) (m.registers r e).holds
        word r true e =
            let loads = slot_has (LoadsAreConsistent s.core.split) s.core n of h.keeps.loads at in
            subst (IsShared i kept) (sym (loads.zero r e)) (shared_int i kept 0)

    event_shares : (n : ℕ) (e : Event) → is_kernel i kept n ≡ false → EventOk i kept wd n e → EventShares i kept e
    event_shares n e none ok = by ok.from
      where
        by : (ok.event ≡ any_event i kept wd) ⊎ ((guards i kept n ≡ true) × Derived i kept (HasEvent n ok.event)) → EventShares i kept e
        by (inl is) = record {
          ip = (subst (λ (g : Handling). Fits i kept (SeenBy i kept wd n) g.ip (Ptr e.ip)) is ok.ip).holds;
          address = (subst (λ (g : Handling). Fits i kept (SeenBy i kept wd n) g.address e.addr_op) is ok.address).holds;
          value = (subst (λ (g : Handling). Fits i kept (SeenBy i kept wd n) g.value e.value_op) is ok.value).holds;
        }
        by (inr g) = let yes = (and_parts (is_kernel i kept n) (serves_some i n) g.0).0 in absurd (cc)

    stopped_shares : (n : ℕ) (of : Slot) → slot_at s.core n ≡ Some of → StoppedOk i kept wd of → is_of_kernel i kept of.handler ≡ false → SlotShares i kept of
    stopped_shares n of at ok none = by ok.mode ok.matches ok.why
      where
        by : (d : Mode) → Match i kept wd d ok.thread of → Why i kept wd d ok.thread of.handler → SlotShares i kept of
        by AsAnyone m free = free_shares n of AsAnyone ok.thread at free m
        by AsKernel m held = let yes : is_of_kernel i kept of.handler ≡ true = ap (is_of_kernel i kept) held.is ∙ held.kernel in absurd (cc)

    slot_kept : (n : ℕ) (of : Slot) → slot_at s.core n ≡ Some of → (st : SlotState) → SlotOkAs i kept wd of st → ServedByOthers i kept of st → SlotShares i kept of
    slot_kept n of at Running ok served = by ok.mode ok.matches ok.next
      where
        kernels : Match i kept wd AsKernel ok.thread of → Free i kept ok.thread ⊎ Bound i kept ok.thread → SlotShares i kept of
        kernels m (inl free) = free_shares n of AsKernel ok.thread at free m
        kernels m (inr b) = absurd (served ok.thread b.derived m.ip)

        by : (d : Mode) → Match i kept wd d ok.thread of → Next i kept wd d ok.thread → SlotShares i kept of
        by AsAnyone m free = free_shares n of AsAnyone ok.thread at free m
        by AsKernel m taken = kernels m (up_cases i kept ok.thread (wd.rules.up ok.thread taken))
    slot_kept n of at Waiting ok served = stopped_shares n of at ok served
    slot_kept n of at Taken ok served = stopped_shares n of at ok served
    slot_kept n of at (Halted c) ok served = absurd served

    row_kept : (row : ThreadRow) → slot_at s.core row.slot.number ≡ Some row.slot → RowOk i kept wd row → RowKept i kept row
    row_kept row at ok = record {
      slot = λ served. slot_kept row.slot.number row.slot at row.slot.state ok.slot served;
      queue = λ none. each_map (EventOk i kept wd row.slot.number) (EventShares i kept) (λ e k. event_shares row.slot.number e none k) row.queue ok.queue;
    }

    pub state_kept : StateKept i kept j s
    state_kept = record {
      accesses = λ n. (turns_ok s h n).accesses;
      rows =
          each_both (λ (row : ThreadRow). slot_at s.core row.slot.number ≡ Some row.slot) (RowOk i kept wd) (RowKept i kept) row_kept s.core.rows
          (out_of_map (λ (x : Slot). slot_at s.core x.number ≡ Some x) (λ (row : ThreadRow). row.slot) s.core.rows (slots_found s.core h.state.core.rising)) h.rows;
      kept_cells = λ w c at is.
          let held : HeldIn i kept wd w c.word = subst (λ b. WordOkAs i kept wd b w c.word) is (h.cells.cells w c at) in
          record { form = held.form; derived = held.derived; stands = holds_stands i kept held.form c.word held.fits.holds };
      other_cells = λ w c at is. let f : Fits i kept (Left i kept wd w) Any c.word = subst (λ b. WordOkAs i kept wd b w c.word) is (h.cells.cells w c at) in f.holds;
      fixed_cells = λ w c at fixed. h.cells.fixed w c at fixed ∙ sym (v.same w c at (or_right (is_kept kept w) (is_fixed i w) fixed));
    }

-- everybody holds everything
abbrev everyone : (i : Image) (kept : List Segment) → World i kept
everyone i kept = record {
  Own = λ x p. Unit {0};
  Taken = Up i kept;
  rules = record {
    up = λ t h. h;
    begins = λ s c. each_from (Derived i kept) (take_up i kept (own_thread i kept s)) (λ fact k. begins_in_slot s c k);
    enters = λ door ip s d e c. each_from (Derived i kept) (take_up i kept (thread_through door ip (handler_of i kept s.handler))) (λ fact k. enters door ip s d e c k);
    goes = λ t next d c. each_from (Derived i kept) (take_up i kept next) (λ fact k. turns t (outcome.Goes next) d c k);
    loads = λ t next part reg w f d c held inside. each_from (Derived i kept) (take_up i kept (with_form next reg f)) (λ fact k. loads t next part reg w f d c held inside k);
    takes = λ t next h reg e d from c held. each_from (Derived i kept) (take_up i kept (with_event next reg e.ip e.address e.value)) (λ fact k. takes t next h reg e d from c held k);
    resumes = λ t u next h how d from c held among. each_from (Derived i kept) (take_up i kept next) (λ fact k. resumes t u next h how d from c held among k);
    reads = λ t u next h reg from d own c held. each_from (Derived i kept) (take_up i kept (with_form next reg (form_in u from))) (λ fact k. reads_served t u next h reg from d own c held k);
    below = λ x p q own b. tt;
    entered = λ x p q own eu none e. tt;
    passed = λ g x q p r w a b c d e. tt;
    stored = λ n x q p r w f at reg own comes hands a b c d. tt;
    served_up = λ served server q a b c d own. tt;
    served_down = λ served server q a b c d own. tt;
    seen_event = λ n y q reg next own by comes. tt;
    seen_register = λ n y q reg from next own by comes. tt;
    given = λ n x q reg f own by comes hands. tt;
    exact_ip = λ x t runs taken plain. tt;
    exact_register = λ x q t r runs taken lt e plain. tt;
    lets_going = λ x from d t r runs is going lt e. tt;
    lets_hand = λ x from d l runs is comes. tt;
    kept_for = λ y x from to q w c put f got reg next own runs at is stores carried here loads there runs'. tt;
    freed = λ s q t among own going. tt;
  };
}

everyones : (i j : Image) (kept : List Segment) → Begun i j kept (everyone i kept)
everyones i j kept = record {
  registers = λ u c run none. each_from (λ (w : Word). IfPointer w (Mine i kept (everyone i kept) (Callers u.group))) u.regs (λ w k. mine (Callers u.group) w);
  ip = λ u c run none. inr (tt);
  cells = λ w c at out. left w c.word;
}
  where
    mine : (x : Who) (w : Word) → IfPointer w (Mine i kept (everyone i kept) x)
    mine x (Int n) = tt
    mine x (Ptr p) = inr (tt)

    left : (w : ℕ) (v : Word) → IfPointer v (Left i kept (everyone i kept) w Any)
    left w (Int n) = tt
    left w (Ptr p) = λ x r own ld. inr (tt)

-- a kernel that keeps its segments keeps them in every run of every variant
pub kernels_keep : (i j : Image) (kept : List Segment) (items : List ℕ) → IsImage i → IsImage j → Keeps i kept → Variant i kept j
    → StateKept i kept j (run (start j) items)
kernels_keep i j kept items img jmg ks v =
    let wd : World i kept = everyone i kept in
    let bg : Begun i j kept wd = everyones i j kept in
    state_kept i j kept img jmg ks v wd bg (run (start j) items) (run_holds i j kept img jmg ks v wd bg items (start j) (start_holds i j kept img jmg ks v wd bg))

-- 3. An image that keeps its segments is a variant of itself.

executable : (p : Perm) → can_fetch p ≡ true → runs_privileged p ≡ false → p ≡ Xu
executable Ro e u = cc
executable Rw e u = cc
executable Xu e u = refl
executable Xp e u = cc
executable Eu e u = cc
executable Ep e u = cc
executable Key e u = cc

module _ (i : Image) (kept : List Segment) (img : IsImage i) (ks : Keeps i kept) where
  -- the thread of a caller's own words is free
  open_forms : (ws : List Word) → list_all (is_open kept) ws ≡ true → list_all (is_open_form kept) (map exactly ws) ≡ true
  unfolding is_open is_open_form
  open_forms [] e = refl
  open_forms (w ∷ ws) e = let parts = and_parts (is_open kept w) (list_all (is_open kept) ws) e in and_from (is_open_form kept (exactly w)) (list_all (is_open_form kept) (map exactly ws))
      (one w parts.0) (open_forms ws parts.1)
    where
      one : (w : Word) → is_open kept w ≡ true → is_open_form kept (exactly w) ≡ true
      one (Int n) e = refl
      one (Ptr p) e = e

  open_words : (b c : Bool) → b ≡ true → (b && not c) ≡ false → c ≡ true
  open_words true true e k = refl
  open_words true false e k = cc
  open_words false c e k = cc

  caller_open : (s : Slot) → is_caller kept s ≡ true → (is_running s.state ≡ true) × (has_open_words kept s ≡ true)
  caller_open s e = by (is_kernel_slot kept s) refl e
    where
      by : (b : Bool) → is_kernel_slot kept s ≡ b → (if b then false else is_running s.state) ≡ true → (is_running s.state ≡ true) × (has_open_words kept s ≡ true)
      by true at k = cc
      by false at k = (k, open_words (is_running s.state) (has_open_words kept s) k at)

  words_shared : (ws : List Word) → AllByRecursion (Public i kept) (map exactly ws) → AllByRecursion (IsShared i kept) ws
  words_shared [] h = tt
  words_shared (w ∷ ws) h = (public_shared i kept (exactly w) w h.0 (holds_exactly i kept w), words_shared ws h.1)

  pub caller_any : (s : Slot) → Contains i.slots s → is_caller kept s ≡ true → IsAnyCaller i kept s
  unfolding is_free
  caller_any s c e =
      let open_s = caller_open s e in
      let among : Contains (running_slots i) s = contained_filter (λ (x : Slot). is_running x.state) i.slots s c open_s.0 in
      let parts = and_parts (not (meets kept s.ip)) (list_all (is_open kept) s.regs) open_s.1 in
      let t : Thread = own_thread i kept s in
      let up : Up i kept (own_thread i kept s) = each_from (Derived i kept) (take_up i kept (own_thread i kept s)) (λ fact k. begins_in_slot s among k) in
      let free : is_free kept (own_thread i kept s) ≡ true = and_from (not (meets kept s.ip)) (list_all (is_open_form kept) (map exactly s.regs)) parts.0 (open_forms s.regs parts.1) in
      let fresh = each_contained (IsFresh (slot_limit i.version) i.slots) i.slots s img.fresh c in
      record {
        executable = executable s.ip.perm fresh.executable (live_user i kept ks s among);
        outside = not-true (meets kept s.ip) parts.0;
        registers = by (up_cases i kept (own_thread i kept s) up) free;
      }
    where
      by : Free i kept (own_thread i kept s) ⊎ Bound i kept (own_thread i kept s) → is_free kept (own_thread i kept s) ≡ true → AllByRecursion (IsShared i kept) s.regs
      by (inl f) e = words_shared s.regs f.forms
      by (inr b) e = let bad = b.not_free in absurd (cc)

  self_slot : (s : Slot) → Contains i.slots s → IsVariantSlot i kept s s
  self_slot s c = record { identity = refl; state = refl; caller = λ e. caller_any s c e; other = λ e. refl }

  self_slots : (xs : List Slot) → AllByRecursion (Contains i.slots) xs → AllZip (IsVariantSlot i kept) xs xs
  self_slots [] h = tt
  self_slots (x ∷ xs) h = (self_slot x h.0, self_slots xs h.1)

  pub self_variant : Variant i kept i
  self_variant = record {
    version = refl;
    mode = refl;
    frames = refl;
    pages = refl;
    slots = self_slots i.slots (each_in i.slots);
    same = λ w c at st. at;
    others = λ w c at st. cell_shared i kept ks w c at (or_parts (is_kept kept w) (is_fixed i w) st).0;
    fixed = λ w c at fixed. fixed;
  }

pub keepers_are_variants : (i : Image) (kept : List Segment) → IsImage i → Keeps i kept → Variant i kept i
keepers_are_variants i kept img ks = self_variant i kept img ks
