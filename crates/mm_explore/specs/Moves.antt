-- The moves of a state.
use Rattle.std.specs.{Prelude.{ℕ, ◌+◌, Bool, true, false, if◌then◌else◌, List, [], ◌∷◌, ◌++◌, map}, List.filter}
use Rattle.mm_model.specs.{declared.slot.Pending.Pending, State.{ThreadRow, State}, Turn.is_running}

abbrev pub runs : ThreadRow → Bool
runs row = is_running row.slot.state

abbrev pub are_some : List Pending → Bool
are_some [] = false
are_some (p ∷ loads) = true

abbrev pub has_load : ThreadRow → Bool
has_load row = are_some row.slot.pending

-- the numbers of the running slots
abbrev pub running_slots : List ThreadRow → List ℕ
running_slots rows = map (λ row. row.slot.number) (filter runs rows)

-- the items of the ports of slots with a pending load
abbrev pub loaded_ports : List ThreadRow → List ℕ
loaded_ports rows = map (λ row. 128 + row.slot.number) (filter has_load rows)

-- the moves of a state, ascending: its running slots and, in a split machine, the ports of its slots with a pending
-- load
unfoldable pub moves : State → List ℕ
moves s = running_slots s.core.rows ++ (if s.core.split then loaded_ports s.core.rows else [])
