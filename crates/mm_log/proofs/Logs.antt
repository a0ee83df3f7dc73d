-- The lines of a turn make the state after it, and those of a log the state after its run.
use Rattle.std.proofs.Common.{◌≡◌, ◌≢◌, ℕ, ◌+◌, ◌<◌, inl, inr, Bool, true, false, ◌==◌, nat_eq, nat_lt, if◌then◌else◌}
use Rattle.std.proofs.Common.{List, [], ◌∷◌, ◌++◌, length, drop, map, slice_set, slice_index_or, Option, Some, None}
use Rattle.std.proofs.Common.{refl, sym, ap, ◌∙◌, subst, arith, eq-eqb, eqb-true, suc, ◌*◌, ◌⊎◌, append_assoc}
use Rattle.std.proofs.Common.{length-set, get_or-set_same, get_or-set_other, length-append}
use Rattle.std.proofs.lemmas.{Bool.{cases_eq, ne_eqb, Decides.nat_tests}, List.ext_get_or}
use Rattle.std.proofs.Math.{Seq.{drop-length, drop-append_seam}, ListN.drop_of_length-le}
use Rattle.std.specs.List.{AllByRecursion, range_with_len}
use Rattle.mm_word.specs.{declared.word.{Cell.Cell, Word.Word}, Pointer.Pointer}
use Rattle.mm_model.specs.declared.{slot.{SlotState.SlotState, Pending.Pending}, event.Event.Event}
use Rattle.mm_model.specs.declared.step.Tick.{Tick, TheVariants.{Idle, Blocked, Did, Faulted, Delivered}}
use Rattle.mm_model.specs.{Memory.{Memory, page_at, is_mapped}, Slot.Slot}
use Rattle.mm_model.specs.State.{ThreadRow, Core, State, row_in, slot_of, queue_of, slot_at, queue_at, output_of}
use Rattle.mm_model.specs.{Image.{Image, start}, Spelling.IsImage, Report.changes_from, Turn.Turned, Trace.turns_of}
use Rattle.mm_model.specs.Run.{turn_of, after, run}
use Rattle.mm_model.specs.Fits.{IsState, IsSlot, Fits, IsConsistent, LoadsMatch, LoadsAreConsistent}
use Rattle.mm_model.proofs.{CoreRows.{slot_at-number, slot_has}, EffectWords.slot_words, Fitted.fitting_of}
use Rattle.mm_model.proofs.Starts.{start_state, start_fits, start_kept}
use Rattle.mm_model.proofs.{StateKeeps.{after_state, after_fits, after_kept}, TurnKeeps.turn_keeps}
use Rattle.mm_log.specs.Lines.{Line}
use Rattle.mm_log.specs.Lines.Line.{Traced, Points, Enters, Holds, Empties, Issues, Queues, Reads, Puts, Maps, Removes}
use Rattle.mm_log.specs.Lines.Line.{Sets}
use Rattle.mm_log.specs.Changes.{slot_changes, changes_between, each_number, slots_changed, queued_at, read_at}
use Rattle.mm_log.specs.Changes.{put_out_by, pages_mapped, pages_removed, cells_changed, cells_changed_in, changes}
use Rattle.mm_log.specs.Log.{turns_in, told, cycle_log, log}
use Rattle.mm_log.specs.Replay.{holding, emptied, is_turn, with_turns, without_first, carry_out, replay}
use Rattle.mm_log.specs.Laws.{but_cycles, LogsReplay}
use Rattle.mm_log.proofs.Runs.{all_flat, all_map, all_unless, all_where, run_on, run_append, run_silent, run_range}
use Rattle.mm_thread.proofs.Rows.{SlotMove}
use Rattle.mm_thread.proofs.Moves.{Counts, QueueMove, OutMove, TurnMoves, turn_moves}
use Rattle.mm_log.proofs.Runs.{IsSilent}
use Rattle.mm_log.proofs.Pages.{memory_line, memory_told, memory_made}
use Rattle.mm_log.proofs.Carried.{row_line, out_line, slot_line, queue_line, replayed, row_all, found_number, core_made}
use Rattle.mm_log.proofs.Registers.{slot_all, slot_replayed}

-- 1. Which lines are told.

module _ (P : Line → Type 0) (was now : Core) where
  slots_all : ((k : ℕ) (p : Pointer) (b : Bool) → P (Points k p b)) → ((k : ℕ) (st : SlotState) → P (Enters k st))
      → ((k r : ℕ) (w : Word) → P (Holds k r w)) → ((k r : ℕ) → P (Empties k r))
      → ((k : ℕ) (load : Pending) → P (Issues k load))
      → AllByRecursion P (slots_changed was now)
  slots_all points stands holds empties issues = all_flat P (λ n. changes_between (slot_at was n) (slot_at now n)) (λ n. one (slot_at was n) (slot_at now n)) (range_with_len 0 64)
    where
      one : (a b : Option Slot) → AllByRecursion P (changes_between a b)
      one (Some a) (Some b) = slot_all P a b (points b.number) (stands b.number) (holds b.number) (empties b.number) (issues b.number)
      one (Some a) None = tt
      one None (Some b) = tt
      one None None = tt

  queued_all : ((h : ℕ) (e : Event) → P (Queues h e)) → AllByRecursion P (each_number (queued_at was now))
  queued_all f = all_flat P (queued_at was now) (λ h. all_map P (Queues h) (f h) (drop (length (queue_at was h)) (queue_at now h))) (range_with_len 0 64)

  read_all : ((h : ℕ) → P (Reads h)) → AllByRecursion P (each_number (read_at was now))
  read_all f = all_flat P (read_at was now) (λ h. all_where P (nat_lt (length (queue_at now h)) (length (queue_at was h))) (Reads h) (f h)) (range_with_len 0 64)

  outs_all : ((g b : ℕ) → P (Puts g b)) → AllByRecursion P (each_number (put_out_by was now))
  outs_all f = all_flat P (put_out_by was now) (λ g. all_map P (Puts g) (f g) (drop (length (output_of was g)) (output_of now g))) (range_with_len 0 64)

mapped_all : (P : Line → Type 0) (was now : Memory) → ((p : ℕ) → P (Maps p)) → AllByRecursion P (pages_mapped was now)
mapped_all P was now f = all_flat P (λ page. if is_mapped was page.0 then [] else Maps page.0 ∷ []) (λ page. all_unless P (is_mapped was page.0) (Maps page.0) (f page.0)) now.pages

removed_all : (P : Line → Type 0) (was now : Memory) → ((p : ℕ) → P (Removes p)) → AllByRecursion P (pages_removed was now)
removed_all P was now f = all_flat P (λ page. if is_mapped now page.0 then [] else Removes page.0 ∷ []) (λ page. all_unless P (is_mapped now page.0) (Removes page.0) (f page.0)) was.pages

cells_all : (P : Line → Type 0) (was now : Memory) → ((w : ℕ) (c : Cell) → P (Sets w c)) → AllByRecursion P (cells_changed was now)
cells_all P was now f = all_flat P (λ page. cells_changed_in (page_at was page.0) page) (λ page. one page (page_at was page.0)) now.pages
  where
    one : (page : ℕ × List Cell) (o : Option (List Cell)) → AllByRecursion P (cells_changed_in o page)
    one page None = tt
    one page (Some cells) = all_map P (λ c. Sets c.0 c.1) (λ c. f c.0 c.1) (changes_from (page.0 * 4096) page.1 cells)

module _ {A : Type 0} (act : Line → A → A) (a b c d e f g : List Line) where
  three : (x : A) → run_on act (e ++ f ++ g) x ≡ run_on act g (run_on act f (run_on act e x))
  three x = run_append act (e ++ f) g x ∙ ap (run_on act g) (run_append act e f x)

  seven : (x : A) → run_on act (a ++ b ++ c ++ d ++ e ++ f ++ g) x ≡ run_on act g (run_on act f (run_on act e (run_on act d (run_on act c (run_on act b (run_on act a x))))))
  seven x =
      run_append act (a ++ b ++ c ++ d ++ e ++ f) g x
      ∙ ap (run_on act g)
      (run_append act (a ++ b ++ c ++ d ++ e) f x
      ∙ ap (run_on act f)
      (run_append act (a ++ b ++ c ++ d) e x
      ∙ ap (run_on act e)
      (run_append act (a ++ b ++ c) d x
      ∙ ap (run_on act d)
      (run_append act (a ++ b) c x ∙ ap (run_on act c) (run_append act a b x)))))

  module _ (es : AllByRecursion (IsSilent act) e) (fs : AllByRecursion (IsSilent act) f) (gs : AllByRecursion (IsSilent act) g) where
    -- nothing of the memory matters
    four : (x : A) → run_on act (a ++ b ++ c ++ d ++ e ++ f ++ g) x ≡ run_on act d (run_on act c (run_on act b (run_on act a x)))
    four x =
        let y : A = run_on act d (run_on act c (run_on act b (run_on act a x))) in
        seven x ∙ run_silent act g gs (run_on act f (run_on act e y)) ∙ run_silent act f fs (run_on act e y) ∙ run_silent act e es y

-- 2. The lines of one queue, and of one output.

not_other : {A : Type 0} (k j : ℕ) (x y : A) → j ≢ k → (if nat_eq k j then x else y) ≡ y
not_other k j x y ne = ap (λ b. if b then x else y) (ne_eqb k j (λ e. ne (sym e)))

at_own : {A : Type 0} (k : ℕ) (x y : A) → (if nat_eq k k then x else y) ≡ x
at_own k x y = ap (λ b. if b then x else y) (eq-eqb k k refl)

module _ (k : ℕ) where
  queue_after : List Event → List Event → List Event
  queue_after was now = run_on (queue_line k) (if nat_lt (length now) (length was) then Reads k ∷ [] else []) (run_on (queue_line k) (map (Queues k) (drop (length was) now)) was)

  short_not : (n : ℕ) → nat_lt n n ≡ false
  short_not n = grind (arith, nat_tests)

  longer_not : (n : ℕ) → nat_lt (n + 1) n ≡ false
  longer_not n = grind (arith, nat_tests)

  shorter : (n : ℕ) → nat_lt n (suc n) ≡ true
  shorter n = grind (arith, nat_tests)

  queue_kept : (q : List Event) → queue_after q q ≡ q
  unfolding queue_after
  queue_kept q =
      ap (λ b. run_on (queue_line k) (if b then Reads k ∷ [] else []) (run_on (queue_line k) (map (Queues k) (drop (length q) q)) q)) (short_not (length q))
      ∙ ap (λ l. run_on (queue_line k) (map (Queues k) l) q) (drop-length q)

  queue_added : (q : List Event) (e : Event) → queue_after q (q ++ e ∷ []) ≡ q ++ e ∷ []
  unfolding queue_after
  queue_added q e =
      ap (λ b. run_on (queue_line k) (if b then Reads k ∷ [] else [])
      (run_on (queue_line k) (map (Queues k) (drop (length q) (q ++ e ∷ []))) q))
      (ap (λ n. nat_lt n (length q)) (length-append q (e ∷ [])) ∙ longer_not (length q))
      ∙ ap (λ l. run_on (queue_line k) (map (Queues k) l) q) (drop-append_seam q (e ∷ []))
      ∙ at_own k (q ++ e ∷ []) q

  queue_lost : (e : Event) (q : List Event) → queue_after (e ∷ q) q ≡ q
  unfolding queue_after
  queue_lost e q =
      ap (λ b. run_on (queue_line k) (if b then Reads k ∷ [] else []) (run_on (queue_line k) (map (Queues k) (drop (length (e ∷ q)) q)) (e ∷ q))) (shorter (length q))
      ∙ ap (λ l. run_on (queue_line k) (Reads k ∷ []) (run_on (queue_line k) (map (Queues k) l) (e ∷ q))) (drop_of_length-le q {i = length (e ∷ q)} (omega arith))
      ∙ at_own k q (e ∷ q)

  queue_made : (was now : List Event) → QueueMove was now → queue_after was now ≡ now
  queue_made was now (QueueMove.keeps e) = ap (queue_after was) e ∙ queue_kept was ∙ sym e
  queue_made was now (QueueMove.adds e is) = ap (queue_after was) is ∙ queue_added was e ∙ sym is
  queue_made was now (QueueMove.loses e is) = ap (λ q. queue_after q now) is ∙ queue_lost e now

  abbrev bytes_line : Line → List ℕ → List ℕ
  bytes_line (Puts g b) bytes = if k == g then bytes ++ b ∷ [] else bytes
  bytes_line _ bytes = bytes

  out_after : List ℕ → List ℕ → List ℕ
  out_after was now = run_on bytes_line (map (Puts k) (drop (length was) now)) was

  out_made : (was now : List ℕ) → OutMove was now → out_after was now ≡ now
  unfolding out_after
  out_made was now (OutMove.keeps e) = ap (out_after was) e ∙ ap (λ l. run_on bytes_line (map (Puts k) l) was) (drop-length was) ∙ sym e
  out_made was now (OutMove.adds b is) = ap (out_after was) is ∙ ap (λ l. run_on bytes_line (map (Puts k) l) was) (drop-append_seam was (b ∷ [])) ∙ at_own k (was ++ b ∷ []) was ∙ sym is

out_length : (ls : List Line) (outs : List (List ℕ)) → length (run_on out_line ls outs) ≡ length outs
out_length [] outs = refl
out_length (l ∷ ls) outs = out_length ls (out_line l outs) ∙ one l
  where
    one : (l : Line) → length (out_line l outs) ≡ length outs
    one (Puts g b) = length-set outs g (slice_index_or outs g [] ++ b ∷ [])
    one (Traced a b) = refl
    one (Points a b c) = refl
    one (Enters a b) = refl
    one (Holds a b c) = refl
    one (Empties a b) = refl
    one (Issues a b) = refl
    one (Queues a b) = refl
    one (Reads a) = refl
    one (Maps a) = refl
    one (Removes a) = refl
    one (Sets a b) = refl

out_one : (k : ℕ) (l : Line) (outs : List (List ℕ)) → k < length outs → slice_index_or (out_line l outs) k [] ≡ bytes_line k l (slice_index_or outs k [])
out_one k (Puts g b) outs lt = elim (cases_eq k g) [
  | inl e ↦
      ap (λ j. slice_index_or (slice_set outs j (slice_index_or outs j [] ++ b ∷ [])) k []) (sym e)
      ∙ get_or-set_same outs k (slice_index_or outs k [] ++ b ∷ []) [] lt
      ∙ sym (ap (λ t. if t then slice_index_or outs k [] ++ b ∷ [] else slice_index_or outs k []) (eq-eqb k g e))
  | inr ne ↦
      get_or-set_other outs g k (slice_index_or outs g [] ++ b ∷ []) [] ne
      ∙ sym (ap (λ t. if t then slice_index_or outs k [] ++ b ∷ [] else slice_index_or outs k []) (ne_eqb k g ne))
]
out_one k (Traced a b) outs lt = refl
out_one k (Points a b c) outs lt = refl
out_one k (Enters a b) outs lt = refl
out_one k (Holds a b c) outs lt = refl
out_one k (Empties a b) outs lt = refl
out_one k (Issues a b) outs lt = refl
out_one k (Queues a b) outs lt = refl
out_one k (Reads a) outs lt = refl
out_one k (Maps a) outs lt = refl
out_one k (Removes a) outs lt = refl
out_one k (Sets a b) outs lt = refl

out_at : (k : ℕ) (ls : List Line) (outs : List (List ℕ)) → k < length outs → slice_index_or (run_on out_line ls outs) k [] ≡ run_on (bytes_line k) ls (slice_index_or outs k [])
out_at k [] outs lt = refl
out_at k (l ∷ ls) outs lt =
    out_at k ls (out_line l outs) (subst (λ n. k < n) (sym (out_length (l ∷ []) outs)) lt)
    ∙ ap (run_on (bytes_line k) ls) (out_one k l outs lt)

-- 3. One turn.

module _ (i : Image) (img : IsImage i) (s : State) (n : ℕ) (state : IsState s) (fits : Fits i s) (kept : IsConsistent s.core) where
  abbrev t : Turned
  t = turn_of s n

  moves : TurnMoves is_turn s.core s.memory t
  moves = turn_moves is_turn (record { did = refl; blocked = refl; faulted = λ c. refl; idle = refl }) s.core s.memory state.core (fitting_of i s img fits) n

  abbrev later : State
  later = record { core = t.core; memory = t.memory; cycles = s.cycles + 1 }

  later_state : IsState later
  unfolding after
  later_state = after_state s n state

  later_kept : IsConsistent t.core
  unfolding after
  later_kept = after_kept i s n img state fits kept

  abbrev lines : List Line
  lines = changes s later

  abbrev slots : List Line
  slots = slots_changed s.core t.core

  abbrev queues : List Line
  queues = each_number (queued_at s.core t.core)

  abbrev reads : List Line
  reads = each_number (read_at s.core t.core)

  abbrev outs : List Line
  outs = each_number (put_out_by s.core t.core)

  abbrev mapped : List Line
  mapped = pages_mapped s.memory t.memory

  abbrev removed : List Line
  removed = pages_removed s.memory t.memory

  abbrev cells : List Line
  cells = cells_changed s.memory t.memory

  -- the lines of a slot
  slot_part : (k : ℕ) (x y : Slot) → slot_at s.core k ≡ Some x → slot_at t.core k ≡ Some y → SlotMove x y → run_on (slot_line k) lines (record x { turns = y.turns }) ≡ y
  unfolding changes
  slot_part k x y at there move =
      let act : Line → Slot → Slot = slot_line k in
      let number : y.number ≡ k = slot_at-number t.core k y there in
      let old = slot_has IsSlot s.core k x state.core.slots at in
      let new = slot_has IsSlot t.core k y later_state.core.slots there in
      let loads = slot_has LoadsMatch s.core k x fits.matched.loads at in
      let zeros = slot_has (LoadsAreConsistent t.core.split) t.core k y later_kept.loads there in
      let few : k < 64 = let low = new.number in omega arith in
      let f : ℕ → List Line = λ j. changes_between (slot_at s.core j) (slot_at t.core j) in
      let first : Slot = record x { turns = y.turns } in
      four act slots queues reads outs mapped removed cells (mapped_all (IsSilent act) s.memory t.memory (λ p z. refl))
      (removed_all (IsSilent act) s.memory t.memory (λ p z. refl)) (cells_all (IsSilent act) s.memory t.memory
      (λ w c z. refl)) first
      ∙ run_silent act outs (outs_all (IsSilent act) s.core t.core (λ g b z. refl)) (run_on act reads (run_on act queues (run_on act slots first)))
      ∙ run_silent act reads (read_all (IsSilent act) s.core t.core (λ h z. refl)) (run_on act queues (run_on act slots first))
      ∙ run_silent act queues (queued_all (IsSilent act) s.core t.core (λ h e z. refl)) (run_on act slots first)
      ∙ run_range act f k (λ j ne. others j ne (slot_at s.core j) (slot_at t.core j) refl refl) 0 64 (omega arith) (omega (arith, few)) (record x { turns = y.turns })
      ∙ ap (λ o. run_on act (changes_between o (slot_at t.core k)) (record x { turns = y.turns })) at
      ∙ ap (λ o. run_on act (changes_between (Some x) o) (record x { turns = y.turns })) there
      ∙ ap (λ j. run_on (slot_line j) (slot_changes x y) (record x { turns = y.turns })) (sym number)
      ∙ slot_replayed x y old new (slot_words s.core k x state.rows at) (slot_words t.core k y later_state.rows there) loads zeros.zero move
    where
      others : (j : ℕ) → j ≢ k → (a b : Option Slot) → slot_at s.core j ≡ a → slot_at t.core j ≡ b → AllByRecursion (IsSilent (slot_line k)) (changes_between a b)
      others j ne None None p q = tt
      others j ne None (Some b) p q = tt
      others j ne (Some a) None p q = tt
      others j ne (Some a) (Some b) p q =
          let number = slot_at-number t.core j b q in
          let apart : b.number ≢ k = λ e. ne (sym number ∙ e) in
          slot_all (IsSilent (slot_line k)) a b
          (λ v c z. not_other k b.number (record z { ip = v; past = c }) z apart)
          (λ st z. not_other k b.number (record z { state = st }) z apart)
          (λ r w z. not_other k b.number (holding r w z) z apart)
          (λ r z. not_other k b.number (emptied r z) z apart)
          (λ load z. not_other k b.number (record z { pending = z.pending ++ load ∷ [] }) z apart)

  -- the lines of a queue
  queue_part : (k : ℕ) → k < 64 → run_on (queue_line k) lines (queue_at s.core k) ≡ queue_at t.core k
  unfolding changes queue_after
  queue_part k few =
      let act : Line → List Event → List Event = queue_line k in
      let q : List Event = queue_at s.core k in
      let mid : List Event = run_on act (queued_at s.core t.core k) q in
      four act slots queues reads outs mapped removed cells (mapped_all (IsSilent act) s.memory t.memory (λ p z. refl))
      (removed_all (IsSilent act) s.memory t.memory (λ p z. refl)) (cells_all (IsSilent act) s.memory t.memory
      (λ w c z. refl)) q
      ∙ run_silent act outs (outs_all (IsSilent act) s.core t.core (λ g b z. refl)) (run_on act reads (run_on act queues (run_on act slots q)))
      ∙ ap (λ z. run_on act reads (run_on act queues z))
      (run_silent act slots (slots_all (IsSilent act) s.core t.core (λ a b c z. refl) (λ a b z. refl)
      (λ a b c z. refl) (λ a b z. refl) (λ a b z. refl)) q)
      ∙ ap (run_on act reads)
      (run_range act (queued_at s.core t.core) k (λ j ne. all_map (IsSilent act) (Queues j)
      (λ e z. not_other k j (z ++ e ∷ []) z ne) (drop (length (queue_at s.core j)) (queue_at t.core j))) 0 64
      (omega arith) (omega (arith, few)) q)
      ∙ run_range act (read_at s.core t.core) k
      (λ j ne. all_where (IsSilent act) (nat_lt (length (queue_at t.core j)) (length (queue_at s.core j))) (Reads j)
      (λ z. not_other k j (without_first z) z ne)) 0 64 (omega arith) (omega (arith, few)) mid
      ∙ queue_made k (queue_at s.core k) (queue_at t.core k) (moves.queues k)

  -- the lines of outputs
  out_part : run_on out_line lines s.core.outputs ≡ t.core.outputs
  unfolding changes output_of out_after
  out_part =
      four out_line slots queues reads outs mapped removed cells (mapped_all (IsSilent out_line) s.memory t.memory
      (λ p z. refl)) (removed_all (IsSilent out_line) s.memory t.memory (λ p z. refl))
      (cells_all (IsSilent out_line) s.memory t.memory (λ w c z. refl)) s.core.outputs
      ∙ ap (run_on out_line outs)
      (run_silent out_line reads (read_all (IsSilent out_line) s.core t.core (λ h z. refl)) (run_on out_line queues (run_on out_line slots s.core.outputs))
      ∙ run_silent out_line queues (queued_all (IsSilent out_line) s.core t.core (λ h e z. refl)) (run_on out_line slots s.core.outputs)
      ∙ run_silent out_line slots (slots_all (IsSilent out_line) s.core t.core (λ a b c z. refl) (λ a b z. refl) (λ a b c z. refl) (λ a b z. refl) (λ a b z. refl)) s.core.outputs)
      ∙ ext_get_or [] (run_on out_line outs s.core.outputs) t.core.outputs (out_length outs s.core.outputs ∙ state.core.outputs ∙ sym later_state.core.outputs)
      (λ g lt.
      let long = out_length outs s.core.outputs in
      let few : g < 64 = omega (arith, state.core.outputs) in
      let among : g < length s.core.outputs = omega (arith, state.core.outputs) in
      out_at g outs s.core.outputs among
      ∙ run_range (bytes_line g) (put_out_by s.core t.core) g (λ j ne. all_map (IsSilent (bytes_line g)) (Puts j)
      (λ b z. not_other g j (z ++ b ∷ []) z ne) (drop (length (output_of s.core j)) (output_of t.core j))) 0 64
      (omega arith) (omega (arith, few))
      (slice_index_or s.core.outputs g [])
      ∙ out_made g (output_of s.core g) (output_of t.core g) (moves.outputs g))

  -- the lines of the memory
  memory_part : run_on memory_line lines s.memory ≡ t.memory
  unfolding changes
  memory_part =
      seven memory_line slots queues reads outs mapped removed cells s.memory
      ∙ ap (λ z. run_on memory_line cells (run_on memory_line removed (run_on memory_line mapped z)))
      (run_silent memory_line outs (outs_all (IsSilent memory_line) s.core t.core (λ g b z. refl)) (run_on memory_line reads (run_on memory_line queues (run_on memory_line slots s.memory)))
      ∙ run_silent memory_line reads (read_all (IsSilent memory_line) s.core t.core (λ h z. refl)) (run_on memory_line queues (run_on memory_line slots s.memory))
      ∙ run_silent memory_line queues (queued_all (IsSilent memory_line) s.core t.core (λ h e z. refl)) (run_on memory_line slots s.memory)
      ∙ run_silent memory_line slots (slots_all (IsSilent memory_line) s.core t.core (λ a b c z. refl) (λ a b z. refl) (λ a b c z. refl) (λ a b z. refl) (λ a b z. refl)) s.memory)
      ∙ sym (three memory_line slots queues reads outs mapped removed cells s.memory)
      ∙ memory_made s.memory state.pages state.cells t.memory later_state.cells moves.asked (memory_told s.memory state.pages moves.asked t.memory moves.memory)

  -- the turns of a slot, by the trace line
  turns_part : (k : ℕ) (x y : Slot) → slot_at t.core k ≡ Some y → (y.turns ≡ x.turns) ⊎ Counts is_turn t k → slot_line k (Traced (turns_in t) t.step) x ≡ record x { turns = y.turns }
  turns_part k x y there turns = by (nat_eq k t.step.slot) refl
    where
      same : (y.turns ≡ x.turns) → x ≡ record x { turns = y.turns }
      same e = λ j. record x { turns = sym e j }

      own : k ≡ t.step.slot → turns_in t ≡ y.turns
      own e = ap turns_of (ap (slot_at t.core) (sym e) ∙ there)

      counted : k ≡ t.step.slot → (b : Bool) → is_turn t.step.tick ≡ b → with_turns b (turns_in t) x ≡ record x { turns = y.turns }
      counted e true is = let all = own e in λ j. record x { turns = all j }
      counted e false is = elim turns [
        | inl as_many ↦ same as_many
        | inr counts ↦ absurd (cc (counts.1, is))
      ]

      by : (b : Bool) → nat_eq k t.step.slot ≡ b → (if b then with_turns (is_turn t.step.tick) (turns_in t) x else x) ≡ record x { turns = y.turns }
      by true e = counted (eqb-true k t.step.slot e) (is_turn t.step.tick) refl
      by false e = elim turns [
        | inl as_many ↦ same as_many
        | inr counts ↦ absurd (cc (eq-eqb k t.step.slot (sym counts.0), e))
      ]

  abbrev all_lines : List Line
  all_lines = Traced (turns_in t) t.step ∷ lines

  row_part : (k : ℕ) (x y : ThreadRow) → row_in s.core.rows k ≡ Some x → row_in t.core.rows k ≡ Some y → run_on row_line all_lines x ≡ y
  unfolding slot_at queue_at
  row_part k x y at there =
      let number = found_number s.core.rows k x at in
      let slot_was : slot_at s.core k ≡ Some x.slot = ap slot_of at in
      let slot_now : slot_at t.core k ≡ Some y.slot = ap slot_of there in
      let queue_was : queue_at s.core k ≡ x.queue = ap queue_of at in
      let queue_now : queue_at t.core k ≡ y.queue = ap queue_of there in
      let new = slot_has IsSlot s.core k x.slot state.core.slots slot_was in
      let few : k < 64 = let low = new.number in omega arith in
      let moved = moves.slots k x.slot slot_was in
      let two : ◌≡◌ {A = Option Slot} (Some moved.now) (Some y.slot) = sym moved.is ∙ slot_now in
      let one : moved.now ≡ y.slot = cc in
      let move : SlotMove x.slot y.slot = subst (SlotMove x.slot) one moved.move in
      let turns : (y.slot.turns ≡ x.slot.turns) ⊎ Counts is_turn t k = subst (λ (z : Slot). (z.turns ≡ x.slot.turns) ⊎ Counts is_turn t k) one moved.turns in
      let slot : run_on (slot_line x.slot.number) all_lines x.slot ≡ y.slot =
      ap (λ j. run_on (slot_line j) all_lines x.slot) number
      ∙ ap (run_on (slot_line k) lines) (turns_part k x.slot y.slot slot_now turns)
      ∙ slot_part k x.slot y.slot slot_was slot_now move in
      let queue : run_on (queue_line x.slot.number) all_lines x.queue ≡ y.queue =
      ap (λ j. run_on (queue_line j) all_lines x.queue) number
      ∙ ap (run_on (queue_line k) lines) (sym queue_was)
      ∙ queue_part k few ∙ queue_now in
      row_all all_lines x ∙ (λ j. record { slot = slot j; queue = queue j })

  -- all lines of the turn, where it has some
  turn_made : (c : ℕ) → replay (record s { cycles = c }) all_lines ≡ record later { cycles = c }
  turn_made c =
      let base : State = record s { cycles = c } in
      let r = replayed base all_lines in
      let keeps = turn_keeps s.core s.memory state.core n in
      let rows : (replay base all_lines).core.rows ≡ t.core.rows = r.rows ∙ core_made s.core t.core (run_on row_line all_lines) state.core.rising keeps.identities row_part in
      let outputs : (replay base all_lines).core.outputs ≡ t.core.outputs = r.outputs ∙ out_part in
      let memory : (replay base all_lines).memory ≡ t.memory = r.memory ∙ memory_part in
      let version : (replay base all_lines).core.version ≡ t.core.version = r.version ∙ sym keeps.version in
      let split : (replay base all_lines).core.split ≡ t.core.split = r.split ∙ sym keeps.split in
      let cycles : (replay base all_lines).cycles ≡ c = r.cycles in
      λ j. record { core = record { rows = rows j; outputs = outputs j; version = version j; split = split j }; memory = memory j; cycles = cycles j }

  idle_made : (c : ℕ) → t.step.tick ≡ Idle → replay (record s { cycles = c }) [] ≡ record later { cycles = c }
  unfolding replay
  idle_made c e =
      let same = moves.idle e in
      let core = same.0 in
      let memory = same.1 in
      λ j. record { core = sym core j; memory = sym memory j; cycles = c }

  turn_replayed : (c : ℕ) → replay (record s { cycles = c }) (cycle_log s n) ≡ record (after s n) { cycles = c }
  unfolding cycle_log after
  turn_replayed c = by t.step.tick refl
    where
      by : (tick : Tick) → t.step.tick ≡ tick → replay (record s { cycles = c }) (told (turns_in t) t.step tick lines) ≡ record later { cycles = c }
      by Idle e = idle_made c e
      by Did e = turn_made c
      by Blocked e = turn_made c
      by (Faulted cause) e = turn_made c
      by (Delivered r) e = turn_made c

-- 4. A run.

replay_append : (s : State) (xs ys : List Line) → replay s (xs ++ ys) ≡ replay (replay s xs) ys
unfolding replay
replay_append s [] ys = refl
replay_append s (l ∷ xs) ys = replay_append (carry_out s l) xs ys

log_replayed : (i : Image) → IsImage i → (s : State) (items : List ℕ) (c : ℕ) → IsState s → Fits i s → IsConsistent s.core
    → replay (record s { cycles = c }) (log s items) ≡ record (run s items) { cycles = c }
unfolding log run replay
log_replayed i img s [] c state fits kept = refl
log_replayed i img s (n ∷ items) c state fits kept =
    replay_append (record s { cycles = c }) (cycle_log s n) (log (after s n) items)
    ∙ ap (λ (x : State). replay x (log (after s n) items)) (turn_replayed i img s n state fits kept c)
    ∙ log_replayed i img (after s n) items c (after_state s n state) (after_fits i s n img state fits) (after_kept i s n img state fits kept)

log_append : (s : State) (items more : List ℕ) → log s (items ++ more) ≡ log s items ++ log (run s items) more
unfolding log run
log_append s [] more = refl
log_append s (n ∷ items) more = ap (λ l. cycle_log s n ++ l) (log_append (after s n) items more) ∙ sym (append_assoc (cycle_log s n) (log (after s n) items) (log (run (after s n) items) more))

pub logs_replay : LogsReplay
unfolding start
logs_replay i items more img = record {
  front = log_append (start i) items more;
  state = ap but_cycles (started ∙ log_replayed i img (start i) items 0 (start_state i img) (start_fits i img) (start_kept i img.rising img.fresh));
}
  where
    started : replay (start i) (log (start i) items) ≡ replay (record (start i) { cycles = 0 }) (log (start i) items)
    started = refl
