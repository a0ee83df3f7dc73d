-- Why a command stops, given what reading, writing and linking answer.
use Rattle.std.specs.Prelude.{ℕ, Result, Ok, Err}
use Rattle.mm_io.specs.{declared.{read.ReadError.ReadError, write.{WriteFault.{WriteFault as WriteFailed}}}}
use Rattle.mm_link.specs.declared.fault.LinkError.{LinkError}
use Rattle.mm_load.specs.declared.status.{Refusal.TheVariants.{TooLong, Link}, CommandError.CommandError}
use Rattle.mm_io.specs.declared.read.ReadError.TheVariants as error
use Rattle.mm_link.specs.declared.fault.LinkError.TheVariants as linking
use Rattle.mm_load.specs.declared.status.CommandError.TheVariants as stop

-- how a command ends after the write of its text
abbrev pub end_of : Result (Unit {0}) WriteFailed → Result (Unit {0}) CommandError
end_of (Ok done) = Ok done
end_of (Err fault) = Err stop.WriteFault

-- why a command stops if a file cannot be read
abbrev pub stop_of_error : ReadError → ℕ → CommandError
stop_of_error error.ReadFault file = stop.ReadFault
stop_of_error error.TooLong file = stop.Refused (TooLong file)
stop_of_error error.NoMemory file = stop.NoMemory

-- why a command stops if objects do not link
abbrev pub stop_of_link : LinkError → CommandError
stop_of_link (linking.Fault fault) = stop.Refused (Link fault)
stop_of_link linking.NoMemory = stop.NoMemory
