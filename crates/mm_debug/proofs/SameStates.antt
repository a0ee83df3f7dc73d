-- States with one snapshot are the same, where version, mode and frames are and no group without a slot has put out anything.
use Rattle.std.proofs.Common.{◌≡◌, ℕ, ◌<◌, inl, inr, Bool, true, false, ◌==◌, if◌then◌else◌, List, [], ◌∷◌, ◌++◌}
use Rattle.std.proofs.Common.{length, map, refl, sym, ap, subst, ◌∙◌, arith, append-nil, eq-eqb}
use Rattle.std.proofs.{Props.props, Math.Logic.∥∥₁_elim, lemmas.Bool.{cases_eq, ne_eqb}}
use Rattle.std.specs.List.{AllByRecursion, flat_map, list_any, Sorted.IsStrictlyIncreasing}
use Rattle.mm_machine.proofs.{Returning.same_all, Copied.{for_own, for_other}}
use Rattle.mm_machine.specs.Validity.{IsValid}
use Rattle.mm_machine.specs.Snapshot.{Parts, has_output, IsOutputOf, IsSnapshotOf, queued, queued_at}
use Rattle.mm_word.specs.declared.word.Cell.{Cell}
use Rattle.mm_model.specs.{declared.event.Event.Event, Slot.Slot}
use Rattle.mm_model.specs.{State.{ThreadRow, Core, State, row_in, queue_of, queue_at, output_of}, Groups.has_group}
use Rattle.mm_model.specs.{Spelling.numbers_of, Fits.slots_of}
use Rattle.mm_model.proofs.CoreRows.{each_both, rest_rises, above_first, Rises}

-- 1. Rows: the queue of each is that of the events beside its slot's number.

-- of events, each beside a number, those of one number, in order
abbrev events_for : ℕ → List (ℕ × Event) → List Event
events_for n [] = []
events_for n (x ∷ xs) = if x.0 == n then x.1 ∷ events_for n xs else events_for n xs

abbrev tagged : ℕ → List Event → List (ℕ × Event)
tagged n es = map (λ (e : Event). (n, e)) es

abbrev slots_in : List ThreadRow → List Slot
slots_in rows = map (λ (row : ThreadRow). row.slot) rows

-- rows with greater numbers than one
abbrev AreAbove : ℕ → List ThreadRow → Type 0
AreAbove n rows = AllByRecursion (λ (row : ThreadRow). n < row.slot.number) rows

above_rows : (n : ℕ) (rows : List ThreadRow) → AllByRecursion (λ y. n < y) (numbers_of (slots_in rows)) → AreAbove n rows
above_rows n [] h = tt
above_rows n (row ∷ rows) h = (h.0, above_rows n rows h.1)

rows_above : (row : ThreadRow) (rows : List ThreadRow) → IsStrictlyIncreasing (numbers_of (slots_in (row ∷ rows))) → AreAbove row.slot.number rows
rows_above row rows rising = above_rows row.slot.number rows (above_first row.slot.number (numbers_of (slots_in rows)) rising)

own_queues : (rows : List ThreadRow) → IsStrictlyIncreasing (numbers_of (slots_in rows)) → AllByRecursion (λ (row : ThreadRow). queue_of (row_in rows row.slot.number) ≡ row.queue) rows
own_queues [] rising = tt
own_queues (row ∷ rows) rising = (
  rw (eq-eqb row.slot.number row.slot.number refl) refl,
  each_both (λ (x : ThreadRow). row.slot.number < x.slot.number) (λ (x : ThreadRow). queue_of (row_in rows x.slot.number) ≡ x.queue)
      (λ (x : ThreadRow). queue_of (row_in (row ∷ rows) x.slot.number) ≡ x.queue)
      (λ x up is. rw (ne_eqb row.slot.number x.slot.number (λ e. omega arith)) is) rows (rows_above row rows rising) (own_queues rows (rest_rises row.slot.number (numbers_of (slots_in rows)) rising)),
)

module _ (core : Core) where
  abbrev all_of : List ThreadRow → List (ℕ × Event)
  all_of rows = flat_map (queued_at core) (slots_in rows)

  for_none : (n : ℕ) (rows : List ThreadRow) → AreAbove n rows → events_for n (all_of rows) ≡ []
  for_none n [] above = refl
  for_none n (row ∷ rows) above = for_other n row.slot.number (queue_at core row.slot.number) (all_of rows) (λ e. omega (arith, e, above.0)) ∙ for_none n rows above.1

  -- the events beside each row's number are its queue
  for_each : (rows : List ThreadRow) → IsStrictlyIncreasing (numbers_of (slots_in rows)) → AllByRecursion (λ (row : ThreadRow). queue_at core row.slot.number ≡ row.queue) rows
      → AllByRecursion (λ (row : ThreadRow). events_for row.slot.number (all_of rows) ≡ row.queue) rows
  for_each [] rising own = tt
  for_each (row ∷ rows) rising own =
      let n : ℕ = row.slot.number in
      let above = rows_above row rows rising in (
        for_own n (queue_at core n) (all_of rows) ∙ ap (λ (es : List Event). queue_at core n ++ es) (for_none n rows above) ∙ append-nil (queue_at core n) ∙ own.0,
        each_both (λ (x : ThreadRow). n < x.slot.number) (λ (x : ThreadRow). events_for x.slot.number (all_of rows) ≡ x.queue)
            (λ (x : ThreadRow). events_for x.slot.number (all_of (row ∷ rows)) ≡ x.queue)
            (λ x up is. for_other x.slot.number n (queue_at core n) (all_of rows) (λ e. omega (arith, e)) ∙ is) rows above (for_each rows (rest_rises n (numbers_of (slots_in rows)) rising) own.1),
      )

  queues_for : Rises core → AllByRecursion (λ (row : ThreadRow). events_for row.slot.number (queued core) ≡ row.queue) core.rows
  unfolding queue_at
  queues_for rising = for_each core.rows rising (own_queues core.rows rising)

abbrev row_with : List (ℕ × Event) → Slot → ThreadRow
row_with events s = record { slot = s; queue = events_for s.number events }

rows_back : (events : List (ℕ × Event)) (rows : List ThreadRow) → AllByRecursion (λ (row : ThreadRow). events_for row.slot.number events ≡ row.queue) rows
    → map (row_with events) (slots_in rows) ≡ rows
rows_back events [] h = refl
rows_back events (row ∷ rows) h =
    ap (λ (es : List Event). let first : ThreadRow = record { slot = row.slot; queue = es } in first ∷ map (row_with events) (slots_in rows)) h.0
    ∙ ap (λ (rest : List ThreadRow). row ∷ rest) (rows_back events rows h.1)

-- so the rows are those of the snapshot
rows_of : (t : State) (p : Parts) → IsSnapshotOf t p → map (row_with p.events) p.slots ≡ t.core.rows
rows_of t p is =
    let rising : Rises t.core = subst (λ (slots : List Slot). IsStrictlyIncreasing (numbers_of slots)) is.slots is.rules.slots in
    ap (λ (events : List (ℕ × Event)). map (row_with events) p.slots) is.events
    ∙ ap (map (row_with (queued t.core))) is.slots
    ∙ rows_back (queued t.core) t.core.rows (queues_for t.core rising)

-- 2. Outputs: those of the groups are in the snapshot, and the others are empty.

pub record IsQuiet (core : Core) : Type 0 where
  pub count : length core.outputs ≡ 64
  pub silent : (g : ℕ) → has_group (slots_of core) g ≡ false → output_of core g ≡ []

pub kept_quiet : (s : State) → ∥ IsValid s ∥₁ → IsQuiet s.core
kept_quiet s kept = ∥∥₁_elim kept (hlevel props) (λ k. record { count = k.state.core.outputs; silent = k.types.silent })

-- what holds of the number of each entry holds of a number that an entry has
number_has : {A : Type 0} (xs : List A) (number : A → ℕ) (P : ℕ → Type 0) (n : ℕ) → AllByRecursion (λ x. P (number x)) xs → list_any (λ x. number x == n) xs ≡ true → P n
number_has [] number P n all has = cc
number_has (x ∷ xs) number P n all has = elim (cases_eq (number x) n) as (λ _. P n) [
  | inl is ↦ subst P is all.0
  | inr ne ↦ number_has xs number P n all.1 (rw (ne_eqb (number x) n ne) at has)
]

module _ (u t : State) (p : Parts) (one : IsSnapshotOf u p) (other : IsSnapshotOf t p) (first : IsQuiet u.core) (second : IsQuiet t.core) where
  spoken : (g : ℕ) → has_group p.slots g ≡ true → output_of u.core g ≡ output_of t.core g
  spoken g has =
      number_has p.outputs (λ o. o.group) (λ n. output_of u.core n ≡ output_of t.core n) g
      (each_both (IsOutputOf u.core) (IsOutputOf t.core) (λ o. output_of u.core o.group ≡ output_of t.core o.group) (λ o here there. sym here ∙ there) p.outputs one.outputs other.outputs)
      (number_has p.slots (λ s. s.group) (λ n. has_output p.outputs n ≡ true) g other.rules.shown has)

  unspoken : (g : ℕ) → has_group p.slots g ≡ false → output_of u.core g ≡ output_of t.core g
  unspoken g none =
      first.silent g (sym (ap (λ (slots : List Slot). has_group slots g) one.slots) ∙ none)
      ∙ sym (second.silent g (sym (ap (λ (slots : List Slot). has_group slots g) other.slots) ∙ none))

  output_same : (g : ℕ) → output_of u.core g ≡ output_of t.core g
  output_same g = by (has_group p.slots g) refl
    where
      by : (b : Bool) → has_group p.slots g ≡ b → output_of u.core g ≡ output_of t.core g
      by true has = spoken g has
      by false none = unspoken g none

  outputs_same : u.core.outputs ≡ t.core.outputs
  unfolding output_of
  outputs_same = same_all u.core.outputs t.core.outputs (first.count ∙ sym second.count) output_same

-- 3. States.

abbrev made : List ThreadRow → List (List ℕ) → ℕ → Bool → List (ℕ × List Cell) → ℕ → ℕ → State
made rows outputs version split pages frames cycles = record {
  core = record { rows = rows; outputs = outputs; version = version; split = split };
  memory = record { pages = pages; frames = frames };
  cycles = cycles;
}

-- two states of one version, mode and number of frames
pub record AreAlike (s t : State) : Type 0 where
  pub version : s.core.version ≡ t.core.version
  pub split : s.core.split ≡ t.core.split
  pub frames : s.memory.frames ≡ t.memory.frames

pub same_state : (u t : State) (p : Parts) → AreAlike u t → IsSnapshotOf u p → IsSnapshotOf t p → IsQuiet u.core → IsQuiet t.core → u ≡ t
same_state u t p alike one other first second =
    ap (λ (x : List ThreadRow). made x u.core.outputs u.core.version u.core.split u.memory.pages u.memory.frames u.cycles) (sym (rows_of u p one) ∙ rows_of t p other)
    ∙ ap (λ (x : List (List ℕ)). made t.core.rows x u.core.version u.core.split u.memory.pages u.memory.frames u.cycles) (outputs_same u t p one other first second)
    ∙ ap (λ (x : ℕ). made t.core.rows t.core.outputs x u.core.split u.memory.pages u.memory.frames u.cycles) alike.version
    ∙ ap (λ (x : Bool). made t.core.rows t.core.outputs t.core.version x u.memory.pages u.memory.frames u.cycles) alike.split
    ∙ ap (λ (x : List (ℕ × List Cell)). made t.core.rows t.core.outputs t.core.version t.core.split x u.memory.frames u.cycles) (sym one.pages ∙ other.pages)
    ∙ ap (λ (x : ℕ). made t.core.rows t.core.outputs t.core.version t.core.split t.memory.pages x u.cycles) alike.frames
    ∙ ap (λ (x : ℕ). made t.core.rows t.core.outputs t.core.version t.core.split t.memory.pages t.memory.frames x) (sym one.cycles ∙ other.cycles)
