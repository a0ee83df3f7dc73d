-- Why a command stops, given what the auditor and the sweeper answer.
use Rattle.mm_audit.specs.declared.extracting.ExtractError.{ExtractError}
use Rattle.mm_sweep.specs.declared.sweeping.SweepError.{SweepError}
use Rattle.mm_load.specs.declared.status.Refusal.TheVariants.{NoGroup, Crosses, Held, Privileged}
use Rattle.mm_load.specs.declared.status.CommandError.{CommandError}
use Rattle.mm_audit.specs.declared.extracting.ExtractError.TheVariants as extracting
use Rattle.mm_sweep.specs.declared.sweeping.SweepError.TheVariants as sweeping
use Rattle.mm_load.specs.declared.status.CommandError.TheVariants as stop

-- why a command stops if groups cannot be extracted
abbrev pub stop_of_extract : ExtractError → CommandError
stop_of_extract extracting.NoGroup = stop.Refused NoGroup
stop_of_extract (extracting.Crosses slot) = stop.Refused (Crosses slot)
stop_of_extract extracting.NoMemory = stop.NoMemory

-- why a command stops if a range cannot be swept
abbrev pub stop_of_sweep : SweepError → CommandError
stop_of_sweep (sweeping.Held slot) = stop.Refused (Held slot)
stop_of_sweep (sweeping.Privileged group) = stop.Refused (Privileged group)
stop_of_sweep sweeping.NoMemory = stop.NoMemory
