-- A state is put back by its own snapshot.
use Rattle.std.proofs.Common.{◌≡◌, ℕ, suc, ◌<◌, Bool, true, false, List, [], ◌∷◌, length, map, replicate, get_or, refl}
use Rattle.std.proofs.{Common.{sym, ap, ◌∙◌, arith}, lemmas.Bool.{eq-eqb, ne_eqb}}
use Rattle.std.specs.List.{AllByRecursion, Sorted.IsStrictlyIncreasing}
use Rattle.mm_model.proofs.{Starts.nothing_out, CoreRows.{each_map, each_both, rest_rises, above_first}}
use Rattle.mm_model.specs.{declared.event.Event.Event, Slot.Slot}
use Rattle.mm_model.specs.{State.{ThreadRow, Core, State, row_in, queue_of, queue_at, output_of}, Groups.has_group}
use Rattle.mm_model.specs.{Spelling.numbers_of, Fits.{slots_of, IsOfVersion}}
use Rattle.mm_word.specs.declared.word.Cell.{Cell}
use Rattle.mm_thread.specs.{Output.Output, Parts.{events_for, row_with, outputs_with}}
use Rattle.mm_machine.specs.Snapshot.{Parts, has_output, IsOutputOf, IsSnapshotOf, IsAlike, queued, restored}
use Rattle.mm_machine.proofs.Outputs.{outputs_count, output_untouched, outputs_given, group_has, output_has}
use Rattle.mm_machine.proofs.{Outputs.no_output_at, Restoring.{IsHost, hosts}, Copied.queued_for}

-- 1. Rows.

pub above_rows : (n : ℕ) (rows : List ThreadRow) → AllByRecursion (λ y. n < y) (numbers_of (map (λ (row : ThreadRow). row.slot) rows)) → AllByRecursion (λ (row : ThreadRow). n < row.slot.number) rows
above_rows n [] h = tt
above_rows n (row ∷ rows) h = (h.0, above_rows n rows h.1)

pub own_queues : (rows : List ThreadRow) → IsStrictlyIncreasing (numbers_of (map (λ (row : ThreadRow). row.slot) rows))
    → AllByRecursion (λ (row : ThreadRow). queue_of (row_in rows row.slot.number) ≡ row.queue) rows
own_queues [] rising = tt
own_queues (row ∷ rows) rising =
    let numbers : List ℕ = numbers_of (map (λ (x : ThreadRow). x.slot) rows) in (
      rw (eq-eqb row.slot.number row.slot.number refl) refl,
      each_both (λ (x : ThreadRow). row.slot.number < x.slot.number) (λ (x : ThreadRow). queue_of (row_in rows x.slot.number) ≡ x.queue)
          (λ (x : ThreadRow). queue_of (row_in (row ∷ rows) x.slot.number) ≡ x.queue)
          (λ x up is. rw (ne_eqb row.slot.number x.slot.number (λ e. omega arith)) is) rows
          (above_rows row.slot.number rows (above_first row.slot.number numbers rising))
          (own_queues rows (rest_rises row.slot.number numbers rising)),
    )

own_rows : (core : Core) → IsStrictlyIncreasing (numbers_of (slots_of core)) → AllByRecursion (λ (row : ThreadRow). queue_at core row.slot.number ≡ row.queue) core.rows
unfolding queue_at
own_rows core rising = own_queues core.rows rising

rows_back : (events : List (ℕ × Event)) (rows : List ThreadRow) → AllByRecursion (λ (row : ThreadRow). events_for row.slot.number
    events ≡ row.queue) rows → map (row_with events) (map (λ (row : ThreadRow). row.slot) rows) ≡ rows
rows_back events [] h = refl
rows_back events (row ∷ rows) h =
    ap (λ (es : List Event). let first : ThreadRow = record { slot = row.slot; queue = es } in first ∷ map (row_with events) (map (λ (x : ThreadRow). x.slot) rows)) h.0
    ∙ ap (λ (rest : List ThreadRow). row ∷ rest) (rows_back events rows h.1)

-- 2. Outputs.

pub same_all : (xs ys : List (List ℕ)) → length xs ≡ length ys → ((g : ℕ) → get_or xs g [] ≡ get_or ys g []) → xs ≡ ys
same_all [] [] long same = refl
same_all [] (y ∷ ys) long same = absurd (omega arith)
same_all (x ∷ xs) [] long same = absurd (omega arith)
same_all (x ∷ xs) (y ∷ ys) long same = ap (λ (z : List ℕ). z ∷ xs) (same 0) ∙ ap (λ (zs : List (List ℕ)). y ∷ zs) (same_all xs ys (omega arith) (λ g. same (suc g)))

module _ (t : State) (p : Parts) (host : IsHost t.core) (is : IsSnapshotOf t p) where
  abbrev all : List (List ℕ)
  all = outputs_with p.outputs (replicate 64 [])

  small : AllByRecursion (λ (o : Output). o.group < 64) p.outputs
  small =
      each_map (λ (o : Output). has_group p.slots o.group ≡ true) (λ (o : Output). o.group < 64)
      (λ o has. group_has (λ g. g < 64) (slots_of t.core) o.group
      (each_map (IsOfVersion 2) (λ (s : Slot). s.group < 64) (λ s low. low.group) (slots_of t.core) host.numbers)
      (sym (ap (λ (slots : List Slot). has_group slots o.group) is.slots) ∙ has)) p.outputs is.rules.used

  there : (g : ℕ) → has_output p.outputs g ≡ true → get_or all g [] ≡ get_or t.core.outputs g []
  unfolding output_of
  there g has =
      output_has (λ n. get_or all n [] ≡ get_or t.core.outputs n []) p.outputs g
      (each_both (λ (o : Output). get_or all o.group [] ≡ o.bytes) (IsOutputOf t.core)
      (λ (o : Output). get_or all o.group [] ≡ get_or t.core.outputs o.group []) (λ o given said. given ∙ said)
      p.outputs
      (outputs_given p.outputs (replicate 64 []) is.rules.groups small) is.outputs) has

  nowhere : (g : ℕ) → has_output p.outputs g ≡ false → get_or all g [] ≡ get_or t.core.outputs g []
  unfolding output_of
  nowhere g none = output_untouched p.outputs (replicate 64 []) g (no_output_at p.outputs g none) ∙ nothing_out 64 g ∙ sym (host.silent g (by (has_group (slots_of t.core) g) refl))
    where
      by : (b : Bool) → has_group (slots_of t.core) g ≡ b → b ≡ false
      by false has = refl
      by true has =
          let yes = group_has (λ n. has_output p.outputs n ≡ true) p.slots g is.rules.shown (ap (λ (slots : List Slot). has_group slots g) is.slots ∙ has) in
          cc

  outputs_back : all ≡ t.core.outputs
  outputs_back = same_all all t.core.outputs (outputs_count p.outputs (replicate 64 []) ∙ sym host.outputs) (λ g. by g (has_output p.outputs g) refl)
    where
      by : (g : ℕ) (b : Bool) → has_output p.outputs g ≡ b → get_or all g [] ≡ get_or t.core.outputs g []
      by g true has = there g has
      by g false none = nowhere g none

  all_rows : map (row_with p.events) p.slots ≡ t.core.rows
  all_rows =
      ap (λ (events : List (ℕ × Event)). map (row_with events) p.slots) is.events
      ∙ ap (map (row_with (queued t.core))) is.slots
      ∙ rows_back (queued t.core) t.core.rows
      (each_map (λ (row : ThreadRow). queue_at t.core row.slot.number ≡ row.queue) (λ (row : ThreadRow). events_for row.slot.number
      (queued t.core) ≡ row.queue) (λ row own. queued_for t.core host.rising row.slot.number ∙ own) t.core.rows
      (own_rows t.core host.rising))

-- 3. The state.

abbrev made : List ThreadRow → List (List ℕ) → ℕ → Bool → List (ℕ × List Cell) → ℕ → ℕ → State
made rows outputs version split pages frames cycles = record {
  core = record { rows = rows; outputs = outputs; version = version; split = split };
  memory = record { pages = pages; frames = frames };
  cycles = cycles;
}

pub put_back : (s t : State) (p : Parts) (u : State) → u ≡ restored s p → IsAlike s t → IsSnapshotOf t p → u ≡ t
put_back s t p u made_so alike is =
    let host = hosts t.core alike.core in
    let all : List (List ℕ) = outputs_with p.outputs (replicate 64 []) in
    made_so
    ∙ ap (λ (x : List ThreadRow). made x all s.core.version s.core.split p.pages s.memory.frames p.cycles) (all_rows t p host is)
    ∙ ap (λ (x : List (List ℕ)). made t.core.rows x s.core.version s.core.split p.pages s.memory.frames p.cycles) (outputs_back t p host is)
    ∙ ap (λ (x : ℕ). made t.core.rows t.core.outputs x s.core.split p.pages s.memory.frames p.cycles) (sym alike.version)
    ∙ ap (λ (x : Bool). made t.core.rows t.core.outputs t.core.version x p.pages s.memory.frames p.cycles) (sym alike.split)
    ∙ ap (λ (x : List (ℕ × List Cell)). made t.core.rows t.core.outputs t.core.version t.core.split x s.memory.frames p.cycles) is.pages
    ∙ ap (λ (x : ℕ). made t.core.rows t.core.outputs t.core.version t.core.split t.memory.pages x p.cycles) (sym alike.frames)
    ∙ ap (λ (x : ℕ). made t.core.rows t.core.outputs t.core.version t.core.split t.memory.pages t.memory.frames x) is.cycles
