-- Configurations: states without their counts.
use Rattle.std.specs.Prelude.{map}
use Rattle.mm_model.specs.{Slot.Slot, State.{ThreadRow, Core, State}}

-- a slot with no count of turns
abbrev pub uncounted_slot : Slot → Slot
uncounted_slot s = record s { turns = 0 }

abbrev pub uncounted_row : ThreadRow → ThreadRow
uncounted_row row = record row { slot = uncounted_slot row.slot }

abbrev pub uncounted : Core → Core
uncounted core = record core { rows = map uncounted_row core.rows }

-- the configuration of a state: the state without its count of cycles and without its slots' counts of turns, which
-- are all 0 in it
unfoldable pub configuration : State → State
configuration s = record { core = uncounted s.core; memory = s.memory; cycles = 0 }
