-- Cycles, runs and round robin.
use Rattle.std.specs.Prelude.{ℕ, zero, suc, ◌+◌, Bool, true, nat_lt, if◌then◌else◌, List, [], ◌∷◌, ◌++◌, Option, Some}
use Rattle.std.specs.{Prelude.None, Option.option_or}
use Rattle.mm_model.specs.{declared.step.Step.Step, Uses.Use, State.{State, ThreadRow}, Turn.{Turned, turn, is_running}}

-- the turn of the cycle that names an item
abbrev pub turn_of : State → ℕ → Turned
turn_of s n = turn s.core s.memory n

-- the state that a turn leaves
abbrev pub state_of : State → Turned → State
state_of s t = record { core = t.core; memory = t.memory; cycles = s.cycles + 1 }

-- the state after the cycle that names an item
unfoldable pub after : State → ℕ → State
after s n = state_of s (turn_of s n)

-- the state after a list of items
unfoldable pub run : State → List ℕ → State
run s [] = s
run s (n ∷ ns) = run (after s n) ns

-- the step of each cycle of a list
unfoldable pub steps : State → List ℕ → List Step
steps s [] = []
steps s (n ∷ ns) = (turn_of s n).step ∷ steps (after s n) ns

-- what the cycles of a list ask of memory, in order
unfoldable pub uses : State → List ℕ → List Use
uses s [] = []
uses s (n ∷ ns) = (turn_of s n).uses ++ uses (after s n) ns

-- the least number of a running slot that passes a test
abbrev pub first_running : (ℕ → Bool) → List ThreadRow → Option ℕ
first_running passes [] = None
first_running passes (row ∷ rows) =
    if is_running row.slot.state
    then (if passes row.slot.number then Some row.slot.number else first_running passes rows)
    else first_running passes rows

abbrev pub any_number : ℕ → Bool
any_number n = true

-- the next running slot after the last one, cyclically by number; at the beginning the least
abbrev pub next_running : List ThreadRow → Option ℕ → Option ℕ
next_running rows None = first_running any_number rows
next_running rows (Some last) = option_or (first_running (nat_lt last) rows) (first_running any_number rows)

abbrev pub then_issued : Option ℕ → (ℕ → List ℕ) → List ℕ
then_issued None rest = []
then_issued (Some n) rest = n ∷ rest n

-- the items of round robin from a state and a last item on: at most `count`, and fewer only if no slot runs
unfoldable pub robin_from : State → Option ℕ → ℕ → List ℕ
robin_from s last zero = []
robin_from s last (suc count) = then_issued (next_running s.core.rows last) (λ n. robin_from (after s n) (Some n) count)

-- the last item of a list, or the item before it if the list is empty
abbrev pub last_item : Option ℕ → List ℕ → Option ℕ
last_item before [] = before
last_item before (n ∷ items) = last_item (Some n) items
