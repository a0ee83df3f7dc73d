-- States of one configuration go on alike, and what is read of a configuration.
use Rattle.std.proofs.Common.{◌≡◌, ℕ, ◌+◌, Bool, true, false, cond, if◌then◌else◌, List, [], ◌∷◌, ◌++◌, map}
use Rattle.std.{proofs.Common.{Option, Some, None, refl, sym, ap, ◌∙◌}, specs.List.filter}
use Rattle.mm_model.specs.Slot.{Slot}
use Rattle.mm_model.specs.{State.{ThreadRow, State, slot_at, output_of}, Turn.{Turned, turn}}
use Rattle.mm_model.specs.{Run.{turn_of, after}, Trace.{group_of, group_in}}
use Rattle.mm_config.specs.Configurations.{uncounted_row, uncounted, configuration}
use Rattle.mm_explore.specs.Moves.{runs, has_load, running_slots}
use Rattle.mm_explore.specs.Moves.{loaded_ports, moves}
use Rattle.mm_explore.specs.Laws.{GoesOnAlike, ConfigurationsGoOn}
use Rattle.mm_explore.proofs.Uncounted.{uncounted_one, slot_at_so, SameTurn, turns_alike}

-- 1. What is read of the rows without counts.

filter_bare : (p : ThreadRow → Bool) → ((row : ThreadRow) → p (uncounted_row row) ≡ p row) → (rows : List ThreadRow) → filter p (map uncounted_row rows) ≡ map uncounted_row (filter p rows)
filter_bare p h [] = refl
filter_bare p h (row ∷ rows) =
    ap (λ l. cond (p (uncounted_row row)) (uncounted_row row ∷ l) l) (filter_bare p h rows)
    ∙ ap (λ b. cond b (uncounted_row row ∷ map uncounted_row (filter p rows)) (map uncounted_row (filter p rows))) (h row)
    ∙ by (p row)
  where
    by : (b : Bool) → cond b (uncounted_row row ∷ map uncounted_row (filter p rows)) (map uncounted_row (filter p rows)) ≡ map uncounted_row (cond b (row ∷ filter p rows) (filter p rows))
    by true = refl
    by false = refl

map_bare : {Y : Type 0} (f : ThreadRow → Y) → ((row : ThreadRow) → f (uncounted_row row) ≡ f row) → (rows : List ThreadRow) → map f (map uncounted_row rows) ≡ map f rows
map_bare f h [] = refl
map_bare f h (row ∷ rows) = ap (λ x. x ∷ map f (map uncounted_row rows)) (h row) ∙ ap (λ l. f row ∷ l) (map_bare f h rows)

running_bare : (rows : List ThreadRow) → running_slots (map uncounted_row rows) ≡ running_slots rows
running_bare rows =
    ap (map (λ (row : ThreadRow). row.slot.number)) (filter_bare runs (λ row. refl) rows)
    ∙ map_bare (λ (row : ThreadRow). row.slot.number) (λ row. refl) (filter runs rows)

loaded_bare : (rows : List ThreadRow) → loaded_ports (map uncounted_row rows) ≡ loaded_ports rows
loaded_bare rows =
    ap (map (λ (row : ThreadRow). 128 + row.slot.number)) (filter_bare has_load (λ row. refl) rows)
    ∙ map_bare (λ (row : ThreadRow). 128 + row.slot.number) (λ row. refl) (filter has_load rows)

-- the moves of a configuration
pub moves_bare : (s : State) → moves (configuration s) ≡ moves s
unfolding moves configuration
moves_bare s =
    ap (λ l. l ++ (if s.core.split then loaded_ports (map uncounted_row s.core.rows) else [])) (running_bare s.core.rows)
    ∙ ap (λ l. running_slots s.core.rows ++ (if s.core.split then l else [])) (loaded_bare s.core.rows)

pub outputs_bare : (s : State) (groups : List ℕ) → map (output_of (configuration s).core) groups ≡ map (output_of s.core) groups
unfolding configuration output_of
outputs_bare s groups = refl

-- states of one configuration have the same outputs
pub same_outputs : (s t : State) (groups : List ℕ) → configuration s ≡ configuration t → map (output_of s.core) groups ≡ map (output_of t.core) groups
same_outputs s t groups e = sym (outputs_bare s groups) ∙ ap (λ (x : State). map (output_of x.core) groups) e ∙ outputs_bare t groups

-- 2. The cycle of an item in states of one configuration.

group_so : (o : Option Slot) → group_of (uncounted_one o) ≡ group_of o
group_so None = refl
group_so (Some s) = refl

pub group_bare : (t : Turned) → group_of (slot_at (uncounted t.core) t.step.slot) ≡ group_in t
group_bare t = ap group_of (slot_at_so t.core t.step.slot) ∙ group_so (slot_at t.core t.step.slot)

turns_same : (s t : State) (n : ℕ) → configuration s ≡ configuration t → SameTurn (turn_of s n) (turn_of t n)
unfolding configuration
turns_same s t n e =
    let cores : uncounted s.core ≡ uncounted t.core = ap (λ (x : State). x.core) e in
    let memories : s.memory ≡ t.memory = ap (λ (x : State). x.memory) e in
    turns_alike s.core t.core s.memory n cores
    ∙ ap (λ m. record (turn t.core m n) { core = uncounted (turn t.core m n).core }) memories

goes_on : (s t : State) (n : ℕ) → configuration s ≡ configuration t → GoesOnAlike s t n
unfolding configuration after
goes_on s t n e =
    let same = turns_same s t n e in
    record {
      step = ap (λ (x : Turned). x.step) same;
      uses = ap (λ (x : Turned). x.uses) same;
      group = sym (group_bare (turn_of s n)) ∙ ap (λ (x : Turned). group_of (slot_at x.core x.step.slot)) same ∙ group_bare (turn_of t n);
      leads = ap (λ (x : Turned). let u : State = record { core = x.core; memory = x.memory; cycles = 0 } in u) same;
    }

pub configurations_go_on : ConfigurationsGoOn
configurations_go_on s t e = record {
  moves = sym (moves_bare s) ∙ ap moves e ∙ moves_bare t;
  each = λ n. goes_on s t n e;
}
