-- The answers of the linker.
use Rattle.std.specs.Prelude.{◌≡◌, Option, Some}
use Rattle.mm_link.specs.declared.fault.{LinkFault.LinkFault, LinkError.LinkError}
use Rattle.mm_link.specs.declared.fault.LinkError.TheVariants as errors

-- the error has the fault, unless memory ran out
abbrev pub Fails : Option LinkFault → LinkError → Type 0
Fails fault (errors.Fault f) = fault ≡ Some f
Fails fault errors.NoMemory = Unit {0}
