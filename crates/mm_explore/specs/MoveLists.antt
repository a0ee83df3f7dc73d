-- The moves of a configuration, read of its slots.
use Rattle.std.specs.{Prelude.{ℕ, ◌+◌, Bool, if◌then◌else◌, List, [], ◌∷◌, ◌++◌}, List.flat_map}
use Rattle.mm_model.specs.{Slot.Slot, Turn.is_running}
use Rattle.mm_explore.specs.Moves.{are_some}

-- the number of a slot, if it runs
abbrev pub running_item : Slot → List ℕ
running_item s = if is_running s.state then s.number ∷ [] else []

-- the item of the port of a slot, if it has a pending load
abbrev pub loaded_item : Slot → List ℕ
loaded_item s = if are_some s.pending then (128 + s.number) ∷ [] else []

abbrev pub ports_in : Bool → List Slot → List ℕ
ports_in split slots = if split then flat_map loaded_item slots else []

abbrev pub moves_in : Bool → List Slot → List ℕ
moves_in split slots = flat_map running_item slots ++ ports_in split slots
