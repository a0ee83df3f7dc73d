-- The status of the process at an answer.
use Rattle.std.specs.Prelude.{ℕ}
use Rattle.mm_load.specs.declared.status.Status.{Status}
use Rattle.mm_load.specs.declared.status.Status.TheVariants.{Done, Usage, Refused, ReadFault, WriteFault, NoMemory}

abbrev pub exit_code : Status → ℕ
exit_code Done = 0
exit_code Usage = 1
exit_code (Refused refusal) = 2
exit_code ReadFault = 3
exit_code WriteFault = 4
exit_code NoMemory = 5
