-- A turn keeps a state one, keeps it fitting its image, and keeps what the types keep of it.
use Rattle.std.proofs.Common.{◌≡◌, ℕ, zero, suc, ◌+◌, ◌≤◌, Bool, true, false, nat_eq, if◌then◌else◌, List, [], ◌∷◌}
use Rattle.std.proofs.Common.{◌++◌, length, map, Option, Some, None, refl, ap, ◌∙◌, arith, slice_set, cond, replicate}
use Rattle.std.proofs.Common.{not, lit<}
use Rattle.std.specs.{List.{AllByRecursion, filter}, Ordering.nat_cmp}
use Rattle.std.specs.{declared.cmp.Ordering.TheVariants.{Less, Equal, Greater}, FinMap.{put, Entries.by_order}}
use Rattle.mm_word.specs.declared.{cause.Cause.Cause, word.{Word.{Word, TheVariants.Int}, Cell.Cell}}
use Rattle.mm_word.specs.{Access.AccessValue, Word.IsWord}
use Rattle.mm_isa.specs.{declared.instr.Instr.Instr, Table.IsInstr}
use Rattle.mm_model.specs.declared.slot.{SlotState.{SlotState, TheVariants.{Running, Waiting, Halted}}, Pending.Pending}
use Rattle.mm_model.specs.declared.event.Event.{Event}
use Rattle.mm_model.specs.Memory.{Memory, page_of, place_of, page_at, put_in, put_cell, map_page, unmap_page, can_map}
use Rattle.mm_model.specs.{Memory.{zero_cell, zero_page, ArePages}, Uses.Use, Slot.Slot}
use Rattle.mm_model.specs.State.{ThreadRow, Core, State, queue_at, at_number, put_slot, put_queue, put_output}
use Rattle.mm_model.specs.{Image.Image, Spelling.{HoldsWords, IsImage}, Operands.{addr_operand, value_operand}, Ask.ask}
use Rattle.mm_model.specs.Effect.{Change, Pages, Effect, effect, delivered}
use Rattle.mm_model.specs.Effect.{Pages.{Keep, Add, Remove}, Effect.{Fault, Block, Deliver, Do}}
use Rattle.mm_model.specs.Turn.{Turned, reply, put_all, state_after, with_issue, slot_after, with_other, with_queue}
use Rattle.mm_model.specs.Turn.{with_out, with_cell, with_pages, core_after, memory_after, stood, is_sync, event_of}
use Rattle.mm_model.specs.Turn.{core_faulted, faulted, touch_of, asked_use, blocked, ended, executed, idle, turn}
use Rattle.mm_model.specs.Run.{after}
use Rattle.mm_model.specs.Fits.{SlotHoldsWords, EventHoldsWords, RowHoldsWords, IsFormed, IsState, Fits, IsConsistent}
use Rattle.mm_model.proofs.Memories.{put_frames, map_frames, unmap_frames, put_pages, put_count, map_pages, map_fitting}
use Rattle.mm_model.proofs.{Memories.{unmap_pages, unmap_count}, CoreRows.{each_set, each_push}}
use Rattle.mm_model.proofs.EffectWords.{page_words, IssueWords, CellWords, PagesFit, QueueWords, OtherWords}
use Rattle.mm_model.proofs.EffectWords.{ChangeWords, EffectWords, slot_words, queue_words, delivered_words}
use Rattle.mm_model.proofs.EffectWords.{addr_operand-fits, value_operand-fits, effect_words}
use Rattle.mm_model.proofs.{Fitted.fitting_of, TurnKeeps.turn_keeps}
use Rattle.mm_model.proofs.TurnShapes.{fetch_uses, fetch_use, started_one, turn_by}

-- 1. Words of rows.

each_changed : (P : ThreadRow → Type 0) (n : ℕ) (f : ThreadRow → ThreadRow) → ((row : ThreadRow) → P row → P (f row))
    → (rows : List ThreadRow) → AllByRecursion P rows → AllByRecursion P (map (at_number n f) rows)
each_changed P n f keeps [] h = tt
each_changed P n f keeps (row ∷ rows) h = (by (nat_eq row.slot.number n), each_changed P n f keeps rows h.1)
  where
    by : (b : Bool) → P (if b then f row else row)
    by true = keeps row h.0
    by false = h.0

put_slot-words : (core : Core) (s : Slot) → AllByRecursion RowHoldsWords core.rows → SlotHoldsWords s → AllByRecursion RowHoldsWords (put_slot core s).rows
unfolding put_slot
put_slot-words core s h k = each_changed RowHoldsWords s.number (λ (row : ThreadRow). record row { slot = s }) (λ row r. record { slot = k; events = r.events }) core.rows h

put_queue-words : (core : Core) (n : ℕ) (q : List Event) → AllByRecursion RowHoldsWords core.rows → AllByRecursion EventHoldsWords q → AllByRecursion RowHoldsWords (put_queue core n q).rows
unfolding put_queue
put_queue-words core n q h k = each_changed RowHoldsWords n (λ (row : ThreadRow). record row { queue = q }) (λ row r. record { slot = r.slot; events = k }) core.rows h

put_all-words : (regs : List Word) (ws : List (ℕ × Word)) → AllByRecursion IsWord regs → AllByRecursion (λ (w : ℕ × Word). IsWord w.1) ws → AllByRecursion IsWord (put_all regs ws)
put_all-words regs [] h k = h
put_all-words regs (w ∷ ws) h k = put_all-words (slice_set regs w.0 w.1) ws (each_set IsWord regs w.0 w.1 h k.0) k.1

slot_after-words : (m : Memory) (s : Slot) (c : Change) → SlotHoldsWords s → ChangeWords m c → SlotHoldsWords (slot_after s c)
unfolding slot_after
slot_after-words m s c h k = by c.issue k.issue
  where
    by : (o : Option Pending) → IssueWords o → SlotHoldsWords (with_issue (record s { regs = put_all s.regs c.writes; ip = c.next; past = c.past; turns = s.turns + 1; state = state_after c.halts }) o)
    by None i = record { registers = put_all-words s.regs c.writes h.registers k.writes; ip = k.next; pending = h.pending }
    by (Some p) i = record { registers = put_all-words s.regs c.writes h.registers k.writes; ip = k.next; pending = each_push (λ (x : Pending). IsWord x.word) s.pending p h.pending i }

stood-words : (s : Slot) (state : SlotState) → SlotHoldsWords s → SlotHoldsWords (stood s state)
stood-words s state h = record { registers = h.registers; ip = h.ip; pending = h.pending }

-- 2. Words of cells.

put_page-words : (k : ℕ) (v : List Cell) (es : List (ℕ × List Cell)) → AllByRecursion (λ (c : Cell). IsWord c.word) v → AllByRecursion HoldsWords es → AllByRecursion HoldsWords (put nat_cmp k v es)
put_page-words k v [] new old = (new, tt)
put_page-words k v (e ∷ es) new old =
    elim (nat_cmp k e.0) as (λ r. AllByRecursion HoldsWords (by_order r ((k, v) ∷ e ∷ es) ((e.0, v) ∷ es) (e ∷ put nat_cmp k v es))) [
      | Less ↦ (new, old)
      | Equal ↦ (new, old.1)
      | Greater ↦ (old.0, put_page-words k v es new old.1)
    ]

filter-words : (p : ℕ × List Cell → Bool) (es : List (ℕ × List Cell)) → AllByRecursion HoldsWords es → AllByRecursion HoldsWords (filter p es)
filter-words p [] h = tt
filter-words p (e ∷ es) h =
    elim (p e) as (λ b. AllByRecursion HoldsWords (cond b (e ∷ filter p es) (filter p es))) [ true ↦ (h.0, filter-words p es h.1) | false ↦ filter-words p es h.1 ]

zeros_are_words : (n : ℕ) → AllByRecursion (λ (c : Cell). IsWord c.word) (replicate n zero_cell)
zeros_are_words zero = tt
zeros_are_words (suc n) = (lit< tt, zeros_are_words n)

-- what a change leaves of the memory
pub record MemoryKeeps (m later : Memory) : Type 0 where
  pub frames : later.frames ≡ m.frames
  pub pages : ArePages later.pages
  pub cells : AllByRecursion HoldsWords later.pages
  pub mapped : length m.pages ≤ m.frames → length later.pages ≤ later.frames

pub memory_self : (m : Memory) → ArePages m.pages → AllByRecursion HoldsWords m.pages → MemoryKeeps m m
memory_self m pages cells = record { frames = refl; pages = pages; cells = cells; mapped = λ few. few }

put_cell-words : (m : Memory) (w : ℕ) (c : Cell) → AllByRecursion HoldsWords m.pages → IsWord c.word → AllByRecursion HoldsWords (put_cell m w c).pages
unfolding put_cell
put_cell-words m w c h k = by (page_at m (page_of w)) refl
  where
    by : (o : Option (List Cell)) → page_at m (page_of w) ≡ o → AllByRecursion HoldsWords (put_in m o w c).pages
    by None e = h
    by (Some cells) e = put_page-words (page_of w) (slice_set cells (place_of w) c) m.pages (each_set (λ (x : Cell). IsWord x.word) cells (place_of w) c (page_words m.pages (page_of w) cells h e) k) h

pub cell_keeps : (m : Memory) (o : Option (ℕ × Cell)) → ArePages m.pages → AllByRecursion HoldsWords m.pages → CellWords o → MemoryKeeps m (with_cell m o)
cell_keeps m None pages cells k = memory_self m pages cells
cell_keeps m (Some w) pages cells k =
    let frames = put_frames m w.0 w.1 in
    let count = put_count m w.0 w.1 pages in
    record { frames = frames; pages = put_pages m w.0 w.1 pages; cells = put_cell-words m w.0 w.1 cells k; mapped = λ few. omega arith }

map_words : (m : Memory) (page : ℕ) → AllByRecursion HoldsWords m.pages → AllByRecursion HoldsWords (map_page m page).pages
unfolding map_page
map_words m page h = put_page-words page zero_page m.pages (zeros_are_words 512) h

unmap_words : (m : Memory) (page : ℕ) → AllByRecursion HoldsWords m.pages → AllByRecursion HoldsWords (unmap_page m page).pages
unfolding unmap_page
unmap_words m page h = filter-words (λ e. not (nat_eq e.0 page)) m.pages h

pages_keep : (m mid : Memory) (cell : Option (ℕ × Cell)) (p : Pages) → MemoryKeeps m mid → mid ≡ with_cell m cell → PagesFit m cell p → MemoryKeeps m (with_pages mid p)
pages_keep m mid cell Keep k is fits = k
pages_keep m mid cell (Add page) k is fits =
    let same : mid ≡ m = is ∙ ap (with_cell m) fits.0 in
    let can : can_map mid page ≡ true = ap (λ (x : Memory). can_map x page) same ∙ fits.1 in
    record { frames = map_frames mid page ∙ k.frames; pages = map_pages mid page k.pages fits.2; cells = map_words mid page k.cells; mapped = λ few. map_fitting mid page k.pages can }
pages_keep m mid cell (Remove page) k is fits =
    let frames = unmap_frames mid page in
    let fewer = unmap_count mid page in
    record { frames = frames ∙ k.frames; pages = unmap_pages mid page k.pages; cells = unmap_words mid page k.cells; mapped = λ few. let some = k.mapped few in omega arith }

change_memory : (m : Memory) (c : Change) → ArePages m.pages → AllByRecursion HoldsWords m.pages → ChangeWords m c → MemoryKeeps m (memory_after m c)
unfolding memory_after
change_memory m c pages cells k = pages_keep m (with_cell m c.cell) c.cell c.pages (cell_keeps m c.cell pages cells k.cell) refl k.pages

-- 3. Words after a turn.

other_words : (core : Core) (o : Option Slot) → AllByRecursion RowHoldsWords core.rows → OtherWords o → AllByRecursion RowHoldsWords (with_other core o).rows
other_words core None h k = h
other_words core (Some o) h k = put_slot-words core o h k

later_words : (core : Core) (n : ℕ) (q : Option (List Event)) → AllByRecursion RowHoldsWords core.rows → QueueWords q → AllByRecursion RowHoldsWords (with_queue core n q).rows
later_words core n None h k = h
later_words core n (Some q) h k = put_queue-words core n q h k

byte_words : (core : Core) (g : ℕ) (o : Option ℕ) → AllByRecursion RowHoldsWords core.rows → AllByRecursion RowHoldsWords (with_out core g o).rows
unfolding put_output
byte_words core g None h = h
byte_words core g (Some byte) h = h

change_rows : (core : Core) (m : Memory) (s : Slot) (c : Change) → AllByRecursion RowHoldsWords core.rows → SlotHoldsWords s → ChangeWords m c → AllByRecursion RowHoldsWords (core_after core s c).rows
unfolding core_after
change_rows core m s c h own k =
    byte_words (with_queue (put_slot (with_other core c.other) (slot_after s c)) s.number c.queue) s.group c.out
    (later_words (put_slot (with_other core c.other) (slot_after s c)) s.number c.queue
    (put_slot-words (with_other core c.other) (slot_after s c) (other_words core c.other h k.other)
    (slot_after-words m s c own k)) k.queue)

faulted_rows : (core : Core) (s : Slot) (e : Event) (o : Option ℕ) → AllByRecursion RowHoldsWords core.rows
    → SlotHoldsWords s → EventHoldsWords e → AllByRecursion RowHoldsWords (core_faulted core s e o).rows
unfolding core_faulted
faulted_rows core s e (Some g) h own k =
    let waits : Core = put_slot core (stood s Waiting) in
    let rows = put_slot-words core (stood s Waiting) h (stood-words s Waiting own) in
    put_queue-words waits g (queue_at waits g ++ e ∷ []) rows (each_push EventHoldsWords (queue_at waits g) e (queue_words waits g rows) k)
faulted_rows core s e None h own k = by (is_sync e.cause)
  where
    by : (b : Bool) → AllByRecursion RowHoldsWords (if b then put_slot core (stood s Running) else put_slot core (stood s (Halted (Some e.cause)))).rows
    by true = put_slot-words core (stood s Running) h (stood-words s Running own)
    by false = put_slot-words core (stood s (Halted (Some e.cause))) h (stood-words s (Halted (Some e.cause)) own)

-- what a turn leaves holds words
record TurnWords (m : Memory) (t : Turned) : Type 0 where
  memory : MemoryKeeps m t.memory
  rows : AllByRecursion RowHoldsWords t.core.rows

module _ (core : Core) (m : Memory) (h : IsFormed core) (rows : AllByRecursion RowHoldsWords core.rows) (pages : ArePages m.pages) (cells : AllByRecursion HoldsWords m.pages) where
  same_memory : MemoryKeeps m m
  same_memory = memory_self m pages cells

  fault_words : (s : Slot) (c : Cause) (a v : Word) (f t : Option AccessValue) (us : List Use) → SlotHoldsWords s → IsWord a → IsWord v → TurnWords m (faulted core m s c a v f t us)
  unfolding faulted event_of
  fault_words s c a v f t us own fits_a fits_v = record {
    memory = same_memory;
    rows = faulted_rows core s
        (event_of s c a v) s.handler rows own (record { ip = own.ip; address = fits_a; value = fits_v });
  }

  ended_words : (s : Slot) (i : Instr) (f : AccessValue) (t : Option AccessValue) (us : List Use) (x : Effect) → SlotHoldsWords s → IsInstr i → EffectWords m x
      → TurnWords m (ended core m s i f t us x)
  unfolding ended blocked
  ended_words s i f t us (Fault c) own instr k = fault_words s c (addr_operand i s) (value_operand i s) (Some f) t us
      own (addr_operand-fits i s own.registers) (value_operand-fits i s instr own.registers)
  ended_words s i f t us Block own instr k = record { memory = same_memory; rows = put_slot-words core (stood s Running) rows (stood-words s Running own) }
  ended_words s i f t us (Deliver o) own instr k = record { memory = same_memory; rows = put_slot-words (put_slot core o) (stood s Running) (put_slot-words core o rows k) (stood-words s Running own) }
  ended_words s i f t us (Do c) own instr k = record { memory = change_memory m c pages cells k; rows = change_rows core m s c rows own k }

  turn_words : (n : ℕ) → TurnWords m (turn core m n)
  unfolding idle blocked executed
  turn_words n = turn_by core m n (TurnWords m) (record {
    idles = λ k none. record { memory = same_memory; rows = rows };
    arrives_at = λ s p rest free port is. record { memory = same_memory; rows = put_slot-words core (delivered s) rows (delivered_words s (slot_words core s.number s rows port.at)) };
    starts = λ s r own. let words = slot_words core n s rows r.at in started_one core m s (TurnWords m) (record {
      faults = λ c f done aim. fault_words s c (Int 0) (Int 0) f None (fetch_uses f done) words (lit< tt) (lit< tt);
      lacks_register = λ f i aim is lacking. record {
        memory = same_memory;
        rows = put_slot-words core (stood (delivered s) Running) rows (stood-words (delivered s) Running (delivered_words s words));
      };
      carries_out = λ f i aim is has.
          ended_words s i f (touch_of (ask i s)) (fetch_use f ∷ asked_use m (ask i s)) (effect core.split i s (reply core m s.number (ask i s))) words is.whole
          (effect_words core h rows m cells s own i is.whole);
    });
  })

-- what a turn leaves of a state's words and pages
after_words : (s : State) (n : ℕ) → IsState s → TurnWords s.memory (turn s.core s.memory n)
after_words s n h = turn_words s.core s.memory h.core h.rows h.pages h.cells n

-- 4. The state after a turn.

-- it is a state
pub after_state : (s : State) (n : ℕ) → IsState s → IsState (after s n)
unfolding after
after_state s n h =
    let words = after_words s n h in
    record { core = (turn_keeps s.core s.memory h.core n).formed; rows = words.rows; pages = words.memory.pages; cells = words.memory.cells }

-- it fits the image
pub after_fits : (i : Image) (s : State) (n : ℕ) → IsImage i → IsState s → Fits i s → Fits i (after s n)
unfolding after
after_fits i s n img h fits =
    let keeps = turn_keeps s.core s.memory h.core n in
    let words = after_words s n h in
    record {
      same_slots = keeps.identities ∙ fits.same_slots;
      version = keeps.version ∙ fits.version;
      split = keeps.split ∙ fits.split;
      frames = words.memory.frames ∙ fits.frames;
      mapped = words.memory.mapped fits.mapped;
      matched = (keeps.fitting (fitting_of i s img fits)).matched;
    }

-- and what the types keep is kept
pub after_kept : (i : Image) (s : State) (n : ℕ) → IsImage i → IsState s → Fits i s → IsConsistent s.core → IsConsistent (after s n).core
unfolding after
after_kept i s n img h fits kept = (turn_keeps s.core s.memory h.core n).kept (fitting_of i s img fits) kept
