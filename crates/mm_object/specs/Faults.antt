-- The first fault of an object's file, and the fault that an error names.
use Rattle.std.specs.Prelude.{ℕ, List, Option, Some, None}
use Rattle.mm_format.specs.Formats.{file, fault_in}
use Rattle.mm_object.specs.{declared.fault.ObjectError.ObjectError, Answers.number_of, Format.object}
use Rattle.mm_object.specs.declared.fault.ObjectError.TheVariants as errors

-- the number and the place of the first fault, if there is one
unfoldable pub object_fault : List ℕ → Option (ℕ × ℕ)
object_fault bytes = fault_in (file object 9 bytes)

-- the number and the offset of the fault that an error names, if memory did not run out
abbrev pub fault_of : ObjectError → Option (ℕ × ℕ)
fault_of (errors.Fault kind offset) = Some (number_of kind, offset)
fault_of errors.NoMemory = None
