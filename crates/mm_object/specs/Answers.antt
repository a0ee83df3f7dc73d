-- The numbers of the faults of object files, and the errors of a reader.
use Rattle.std.specs.Prelude.{ℕ}
use Rattle.mm_format.specs.declared.reader.ReadError.{ReadError}
use Rattle.mm_object.specs.declared.fault.{ObjectFault.ObjectFault, ObjectError.ObjectError}
use Rattle.mm_format.specs.declared.reader.ReadError.TheVariants as reading
use Rattle.mm_object.specs.declared.fault.ObjectFault.TheVariants as faults
use Rattle.mm_object.specs.declared.fault.ObjectError.TheVariants as errors

abbrev pub number_of : ObjectFault → ℕ
number_of faults.Short = 1
number_of faults.Magic = 2
number_of faults.Version = 3
number_of faults.Count = 4
number_of faults.Name = 5
number_of faults.Segment = 6
number_of faults.Reloc = 7
number_of faults.Thread = 8
number_of faults.Trailing = 9

-- the error of a reader of fields, as one of objects
abbrev pub from_read_error : ReadError ObjectFault → ObjectError
from_read_error (reading.Fault kind offset) = errors.Fault kind offset
from_read_error reading.NoMemory = errors.NoMemory
