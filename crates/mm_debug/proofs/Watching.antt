-- A cycle stops a run for a watch exactly where it did a Store or a LoadSet on the watched word.
use Rattle.std.proofs.Common.{◌≡◌, ◌↔◌, ℕ, zero, suc, ◌<◌, Bool, true, false, ◌&&◌, ◌==◌, if◌then◌else◌, ℤ, pos, negsuc}
use Rattle.std.proofs.Common.{◌+ℤ◌, ◌%◌, ◌⊎◌, inl, inr, List, [], ◌∷◌, length, Option, Some, None, Result, Ok, Err}
use Rattle.std.{proofs.Common.{refl, sym, ap, ◌∙◌, subst, arith}, specs.Prelude.{slice_index_or, IfSome}}
use Rattle.mm_word.specs.declared.{perm.Kind.{Kind, TheVariants.{Fetch, Store}}, cause.Cause.Cause}
use Rattle.mm_word.specs.declared.word.{Pre.Pre, Word.{Word, TheVariants.{Int, Ptr}}, Cell.Cell}
use Rattle.mm_word.specs.{Access.{AccessValue, check_result, touch_at}, Perm.allows, Pointer.{Pointer, holds_word}}
use Rattle.mm_word.{specs.Word.word_bits, proofs.Checked.kind_by}
use Rattle.mm_isa.specs.declared.instr.Instr.{Instr, TheVariants.{Ld, St, Map, Unmap}}
use Rattle.mm_model.specs.declared.{slot.Pending.Pending, step.Tick.TheVariants.{Blocked, Faulted}}
use Rattle.mm_model.specs.{Memory.{Memory, cell_at, is_mapped, passes}, Uses.{Use, Accessed, Removed, use_at}}
use Rattle.mm_model.specs.{Slot.{Slot, register}, State.{Core, slot_at}, Operands.{addr_operand, value_operand, lacks}}
use Rattle.mm_model.specs.Ask.{Ask, ask, is_privileged, load_kind, reaching}
use Rattle.mm_model.specs.Ask.Ask.{Nothing, Refuse, Reach, MapPage, UnmapPage, NextEvent, Room, Serve}
use Rattle.mm_model.specs.Effect.{Reply, Change, Effect, effect, loaded, stored, delivered}
use Rattle.mm_model.specs.Effect.{Reply.{Refused, Got}, Effect.{Fault, Block, Deliver, Do}}
use Rattle.mm_model.specs.Turn.{Turned, reply, reached, removal_use, asked_use, touch_of, is_sync, tick_faulted}
use Rattle.mm_model.specs.Turn.{faulted, blocked, ended, executed, issued, decoded, instr_in, fetched, aimed, started}
use Rattle.mm_model.specs.Turn.{idle, arrives, port_of, taken_by_port, taken_by, is_running, turn}
use Rattle.mm_model.{specs.Counted.writes, proofs.TurnShapes.{Fetches, fetch_uses, fetch_use, started_one, turn_by}}
use Rattle.mm_debug.specs.{Breakpoints.has_watch, Session.{is_done, watched_by, watched}}
use Rattle.mm_debug.specs.Laws.{SetsBitAt, WatchesSeeSignals}
use Rattle.mm_word.specs.declared.cause.Cause.TheVariants as cause

-- 1. Uses that are a Store or a LoadSet which was done.

-- the word of such a use
abbrev signal_of : Use → Option ℕ
signal_of (Accessed kind word true true) = if writes kind then Some word else None
signal_of (Accessed kind word true false) = None
signal_of (Accessed kind word false done) = None
signal_of (Removed page) = None

-- one of the uses is such a one on this word
abbrev HasSignal : ℕ → List Use → Type 0
HasSignal word [] = ⊥
HasSignal word (u ∷ us) = (signal_of u ≡ Some word) ⊎ HasSignal word us

record IsSignal (word : ℕ) (u : Use) : Type 0 where
  kind : Kind
  sets : writes kind ≡ true
  is : u ≡ Accessed kind word true true

set_signal : (kind : Kind) (w word : ℕ) (b : Bool) → writes kind ≡ b → (if b then Some w else None) ≡ Some word → IsSignal word (Accessed kind w true true)
set_signal kind w word true on e =
    let same : w ≡ word = cc in
    record { kind = kind; sets = on; is = ap (λ (x : ℕ). Accessed kind x true true) same }
set_signal kind w word false on e = cc

signal_from : (word : ℕ) (u : Use) → signal_of u ≡ Some word → IsSignal word u
signal_from word (Accessed kind w true true) e = set_signal kind w word (writes kind) refl e
signal_from word (Accessed kind w true false) e = cc
signal_from word (Accessed kind w false done) e = cc
signal_from word (Removed page) e = cc

signal_to : (word : ℕ) (u : Use) (kind : Kind) → writes kind ≡ true → u ≡ Accessed kind word true true → signal_of u ≡ Some word
signal_to word u kind on is = ap signal_of is ∙ ap (λ (b : Bool). if b then Some word else None) on

sets_bit_from : (word : ℕ) (us : List Use) → HasSignal word us → SetsBitAt word us
sets_bit_from word [] h = absurd h
sets_bit_from word (u ∷ us) (inl e) = let one = signal_from word u e in (one.kind, one.sets, (0, omega arith, one.is))
sets_bit_from word (u ∷ us) (inr h) =
    let later = sets_bit_from word us h in
    let below = later.2.1 in
    (later.0, later.1, (suc later.2.0, omega arith, later.2.2))

signal_at : (word : ℕ) (us : List Use) (kind : Kind) → writes kind ≡ true → (k : ℕ) → k < length us
    → slice_index_or us k (Accessed kind word true true) ≡ Accessed kind word true true → HasSignal word us
signal_at word [] kind on k lt is = absurd (omega arith)
signal_at word (u ∷ us) kind on zero lt is = inl (signal_to word u kind on is)
signal_at word (u ∷ us) kind on (suc k) lt is = inr (signal_at word us kind on k (omega arith) is)

-- 2. A fetch is no signal.

fetched_kind : (p : Pointer) (f : AccessValue) → check_result (Ptr p) (pos 0) Fetch ≡ Ok f → f.kind ≡ Fetch
fetched_kind p f e = kind_by (Ptr p) (pos 0) Fetch (Ok f) (sym e)

no_fetch : (f : AccessValue) → f.kind ≡ Fetch → (word : ℕ) → ¬ (signal_of (Accessed f.kind f.addr true true) ≡ Some word)
no_fetch f is word e =
    let none : None ≡ Some word = sym (ap (λ (kind : Kind). if writes kind then Some f.addr else None) is) ∙ e in
    cc

fetch_quiet : (s : Slot) (f : Option AccessValue) (done : Bool) → IfSome f (Fetches s) → (word : ℕ) → ¬ (HasSignal word (fetch_uses f done))
fetch_quiet s None done aim word h = h
fetch_quiet s (Some f) true aim word (inl e) = no_fetch f (fetched_kind s.ip f aim) word e
fetch_quiet s (Some f) false aim word (inl e) = cc
fetch_quiet s (Some f) done aim word (inr never) = never

-- 3. Turns.

module _ (watches : List ℕ) where
  abbrev Sees : Turned → Type 0
  Sees t = (word : ℕ) → (watched watches t.step ≡ Some word) ↔ ((has_watch watches word ≡ true) × HasSignal word t.uses)

  -- no cycle that was not done stops a run
  undone : (t : Turned) → is_done t.step.tick ≡ false → ((word : ℕ) → ¬ (HasSignal word t.uses)) → Sees t
  undone t is none word = (stops, λ h. absurd (none word h.1))
    where
      stops : watched watches t.step ≡ Some word → (has_watch watches word ≡ true) × HasSignal word t.uses
      stops e =
          let nothing : None ≡ Some word = sym (ap (λ (b : Bool). if b then watched_by watches t.step.touched else None) is) ∙ e in
          cc

  fault_undone : (c : Cause) (o : Option ℕ) → is_done (tick_faulted c o) ≡ false
  fault_undone c (Some h) = refl
  fault_undone c None = by (is_sync c)
    where
      by : (b : Bool) → is_done (if b then Blocked else Faulted c) ≡ false
      by true = refl
      by false = refl

  faulted_sees : (core : Core) (m : Memory) (s : Slot) (c : Cause) (a v : Word) (f touched : Option AccessValue) (us : List Use)
      → ((word : ℕ) → ¬ (HasSignal word us)) → Sees (faulted core m s c a v f touched us)
  unfolding faulted
  faulted_sees core m s c a v f touched us none = undone (faulted core m s c a v f touched us) (fault_undone c s.handler) none

  blocked_sees : (core : Core) (m : Memory) (s : Slot) (f : AccessValue) (touched : Option AccessValue) (us : List Use) → ((word : ℕ) → ¬ (HasSignal word us)) → Sees (blocked core m s f touched us)
  unfolding blocked
  blocked_sees core m s f touched us none = undone (blocked core m s f touched us) refl none

  -- an instruction that touches no cell
  untouched_sees : (core : Core) (m : Memory) (s : Slot) (i : Instr) (f : AccessValue) (us : List Use) → ((word : ℕ) → ¬ (HasSignal word us)) → (e : Effect) → Sees (ended core m s i f None us e)
  unfolding ended
  untouched_sees core m s i f us none (Fault c) = faulted_sees core m s c (addr_operand i s) (value_operand i s) (Some f) None us none
  untouched_sees core m s i f us none Block = blocked_sees core m s f None us none
  untouched_sees core m s i f us none (Deliver other) = blocked_sees _ m s f None us none
  untouched_sees core m s i f us none (Do c) = λ word. (λ e. cc, λ h. absurd (none word h.1))

  -- an access to a watched word that was done, where its kind sets the bit
  touch_sees : (a : AccessValue) (word : ℕ) (kinds there : Bool) → has_watch watches a.addr ≡ there → (if kinds && there then Some a.addr else None) ≡ Some word
      → (has_watch watches word ≡ true) × ((if kinds then Some a.addr else None) ≡ Some word)
  touch_sees a word true true is e = let same : a.addr ≡ word = cc in (ap (has_watch watches) (sym same) ∙ is, e)
  touch_sees a word true false is e = cc
  touch_sees a word false there is e = cc

  touch_seen : (a : AccessValue) (word : ℕ) (kinds there : Bool) → has_watch watches a.addr ≡ there → has_watch watches word ≡ true → (if kinds then Some a.addr else None) ≡ Some word
      → (if kinds && there then Some a.addr else None) ≡ Some word
  touch_seen a word true true is on e = e
  touch_seen a word true false is on e =
      let same : a.addr ≡ word = cc in
      let never : false ≡ true = sym is ∙ ap (has_watch watches) same ∙ on in
      cc
  touch_seen a word false there is on e = cc

  module _ (core : Core) (m : Memory) (s : Slot) (f : AccessValue) (u : Use) (own : (word : ℕ) → ¬ (signal_of u ≡ Some word)) where
    quiet : (us : List Use) → ((word : ℕ) → ¬ (HasSignal word us)) → (word : ℕ) → ¬ (HasSignal word (u ∷ us))
    quiet us none word (inl e) = own word e
    quiet us none word (inr h) = none word h

    quiet_one : (v : Use) → ((word : ℕ) → ¬ (signal_of v ≡ Some word)) → (word : ℕ) → ¬ (HasSignal word (u ∷ v ∷ []))
    quiet_one v none = quiet (v ∷ []) (λ word h. elim h [ inl e ↦ none word e | inr never ↦ never ])

    quiet_alone : (word : ℕ) → ¬ (HasSignal word (u ∷ []))
    quiet_alone = quiet [] (λ word h. h)

    quiet_asked : (a : Ask) → touch_of a ≡ None → (word : ℕ) → ¬ (HasSignal word (u ∷ asked_use m a))
    quiet_asked Nothing is = quiet_alone
    quiet_asked (Refuse c) is = quiet_alone
    quiet_asked (Reach a pre) is = cc
    quiet_asked (MapPage page) is = quiet_alone
    quiet_asked (UnmapPage page) is = by (is_mapped m page)
      where
        by : (b : Bool) → (word : ℕ) → ¬ (HasSignal word (u ∷ removal_use page b))
        by true = quiet_one (Removed page) (λ word e. cc)
        by false = quiet_alone
    quiet_asked NextEvent is = quiet_alone
    quiet_asked (Room g) is = quiet_alone
    quiet_asked (Serve k) is = quiet_alone

    asks_no_cell : (i : Instr) (a : Ask) → touch_of a ≡ None → (e : Effect) → Sees (ended core m s i f (touch_of a) (u ∷ asked_use m a) e)
    asks_no_cell i a is e =
        subst (λ (t : Option AccessValue). Sees (ended core m s i f t (u ∷ asked_use m a) e)) (sym is) (untouched_sees core m s i f (u ∷ asked_use m a) (quiet_asked a is) e)

    module _ (i : Instr) (does : Reply → Effect) (refuses : (c : Cause) → does (Refused c) ≡ Fault c) (goes : (a : AccessValue) (c : Cell) → (x : Change) × (does (Got a c) ≡ Do x)) where
      refused_sees : (a : AccessValue) (c : Cause) (v : Use) → ((word : ℕ) → ¬ (signal_of v ≡ Some word)) → Sees (ended core m s i f (Some a) (u ∷ v ∷ []) (does (Refused c)))
      unfolding ended
      refused_sees a c v none =
          subst (λ (e : Effect). Sees (ended core m s i f (Some a) (u ∷ v ∷ []) e)) (sym (refuses c))
          (faulted_sees core m s c (addr_operand i s) (value_operand i s) (Some f) (Some a) (u ∷ v ∷ []) (quiet_one v none))

      did_sees : (a : AccessValue) (x : Change) → Sees (ended core m s i f (Some a) (u ∷ Accessed a.kind a.addr true true ∷ []) (Do x))
      unfolding ended
      did_sees a x word = (stops, seen)
        where
          stops : watched_by watches (Some a) ≡ Some word → (has_watch watches word ≡ true) × HasSignal word (u ∷ Accessed a.kind a.addr true true ∷ [])
          stops e = let two = touch_sees a word (writes a.kind) (has_watch watches a.addr) refl e in (two.0, inr (inl two.1))

          seen : (has_watch watches word ≡ true) × HasSignal word (u ∷ Accessed a.kind a.addr true true ∷ []) → watched_by watches (Some a) ≡ Some word
          seen h = elim h.1 [
            | inl e ↦ absurd (own word e)
            | inr later ↦ elim later [ inl e ↦ touch_seen a word (writes a.kind) (has_watch watches a.addr) refl h.0 e | inr never ↦ absurd never ]
          ]

      got_sees : (a : AccessValue) (c : Cell) → Sees (ended core m s i f (Some a) (u ∷ Accessed a.kind a.addr true true ∷ []) (does (Got a c)))
      got_sees a c = subst (λ (e : Effect). Sees (ended core m s i f (Some a) (u ∷ Accessed a.kind a.addr true true ∷ []) e)) (sym (goes a c).1) (did_sees a (goes a c).0)

      bit_sees : (a : AccessValue) (c : Cell) (b : Bool) → Sees (ended core m s i f (Some a) (u ∷ Accessed a.kind a.addr true b ∷ []) (does (if b then Got a c else Refused cause.Sync)))
      bit_sees a c true = got_sees a c
      bit_sees a c false = refused_sees a cause.Sync (Accessed a.kind a.addr true false) (λ word e. cc)

      cell_sees : (a : AccessValue) (pre : Pre) (o : Option Cell) → Sees (ended core m s i f (Some a) (u ∷ use_at a.kind a.addr pre o ∷ []) (does (reached a pre o)))
      cell_sees a pre None = refused_sees a cause.NoPage (Accessed a.kind a.addr false false) (λ word e. cc)
      cell_sees a pre (Some c) = bit_sees a c (passes pre c.full)

      -- an instruction that reaches for a cell
      reaches_cell : (r : Result AccessValue Cause) (pre : Pre) → Sees (ended core m s i f (touch_of (reaching r pre)) (u ∷ asked_use m (reaching r pre))
          (does (reply core m s.number (reaching r pre))))
      unfolding reply
      reaches_cell (Err c) pre = untouched_sees core m s i f (u ∷ []) quiet_alone (does (Refused c))
      reaches_cell (Ok a) pre = cell_sees a pre (cell_at m a.addr)

    no_cell : (i : Instr) → touch_of (ask i s) ≡ None → Sees (executed core m s f u i)
    unfolding executed
    no_cell i is = asks_no_cell i (ask i s) is (effect core.split i s (reply core m s.number (ask i s)))

    page_untouched : (a b : Bool) (asked : Ask) → touch_of asked ≡ None → touch_of (if a then (if b then asked else Refuse cause.Bounds) else Refuse cause.Priv) ≡ None
    page_untouched true true asked is = is
    page_untouched true false asked is = refl
    page_untouched false b asked is = refl

    executed_sees : (i : Instr) → Sees (executed core m s f u i)
    unfolding executed ask effect
    executed_sees (Ld rd ra pre post imm) = reaches_cell (Ld rd ra pre post imm) (loaded core.split s rd post) (λ c. refl) (λ a c. (_, refl)) (check_result (register s ra) imm (load_kind post)) pre
    executed_sees (St ra rb pre post imm) = reaches_cell (St ra rb pre post imm) (stored s (register s rb) post) (λ c. refl) (λ a c. (_, refl)) (check_result (register s ra) imm Store) pre
    executed_sees (Map rd ra) =
        no_cell (Map rd ra) (page_untouched (is_privileged s.ip.perm) _ (MapPage (word_bits (register s ra))) refl)
    executed_sees (Unmap rd ra) =
        no_cell (Unmap rd ra) (page_untouched (is_privileged s.ip.perm) _ (UnmapPage (word_bits (register s ra))) refl)
    executed_sees i = no_cell i refl

  turn_sees : (core : Core) (m : Memory) (n : ℕ) → Sees (turn core m n)
  unfolding idle
  turn_sees core m n = turn_by core m n Sees (record {
    idles = λ k none. undone (idle core m k) refl (λ word h. h);
    arrives_at = λ s p rest free port is. undone (arrives core m s (p ∷ rest)) refl (λ word h. h);
    starts = λ s r own. started_one core m s Sees (record {
      faults = λ c f done aim. faulted_sees core m s c (Int 0) (Int 0) f None (fetch_uses f done) (fetch_quiet s f done aim);
      lacks_register = λ f i aim is lacking. blocked_sees core m (delivered s) f None (fetch_use f ∷ []) (fetch_quiet s (Some f) true aim);
      carries_out = λ f i aim is has. executed_sees core m s f (fetch_use f) (no_fetch f (fetched_kind s.ip f aim)) i;
    });
  })

pub watches_see : WatchesSeeSignals
watches_see s item word =
    let uses : List Use = (turn s.state.core s.state.memory item).uses in
    let both = turn_sees s.watches s.state.core s.state.memory item word in
    (λ e. let h = both.0 e in (h.0, sets_bit_from word uses h.1), λ h. both.1 (h.0, signal_at word uses h.1.0 h.1.1 h.1.2.0 h.1.2.1 h.1.2.2))
