-- The numbers of the faults of image files, and what a reader answers.
use Rattle.std.specs.Prelude.{ℕ, Option, Some, None}
use Rattle.mm_format.specs.declared.reader.ReadError.{ReadError}
use Rattle.mm_image.specs.declared.fault.{ImageFault.ImageFault, ImageError.ImageError}
use Rattle.mm_format.specs.declared.reader.ReadError.TheVariants as reading
use Rattle.mm_image.specs.declared.fault.ImageFault.TheVariants as faults
use Rattle.mm_image.specs.declared.fault.ImageError.TheVariants as errors

abbrev pub number_of : ImageFault → ℕ
number_of faults.Short = 1
number_of faults.Magic = 2
number_of faults.Version = 3
number_of faults.Count = 4
number_of faults.SlotOrder = 5
number_of faults.Group = 6
number_of faults.Handler = 7
number_of faults.State = 8
number_of faults.Pointer = 9
number_of faults.Ip = 10
number_of faults.PageOrder = 11
number_of faults.Frames = 12
number_of faults.Trailing = 13

-- the error of a reader of fields, as one of images
abbrev pub from_read_error : ReadError ImageFault → ImageError
from_read_error (reading.Fault kind offset) = errors.Fault kind offset
from_read_error reading.NoMemory = errors.NoMemory

-- the number and the offset of the fault that an error names, if memory did not run out
abbrev pub fault_of : ImageError → Option (ℕ × ℕ)
fault_of (errors.Fault kind offset) = Some (number_of kind, offset)
fault_of errors.NoMemory = None
