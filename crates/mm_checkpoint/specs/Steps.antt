-- What the code that reads a checkpoint keeps between its fields.
use Rattle.std.specs.{Prelude.{ℕ, List, count_by}, List.range_with_len}
use Rattle.mm_thread.specs.Output.{Output}
use Rattle.mm_format.specs.declared.reader.ReadError.{ReadError}
use Rattle.mm_image.specs.declared.fault.ImageFault.{ImageFault}
use Rattle.mm_checkpoint.specs.declared.fault.SaveError.{SaveError, TheVariants.{Fault, NoMemory}}
use Rattle.mm_model.specs.Flags.{in_mask}
use Rattle.mm_format.specs.declared.reader.ReadError.TheVariants as reading

-- the error of a reader of checkpoints for that of a reader of fields, without the kind of the fault
abbrev pub from_read_error : ReadError ImageFault → SaveError
from_read_error (reading.Fault kind offset) = Fault offset
from_read_error reading.NoMemory = NoMemory

-- a group with the bytes that it has put out
abbrev pub put_out : Output → ℕ × List ℕ
put_out output = (output.group, output.bytes)

-- the count of bits of a mask that are set, of 16
unfoldable pub bit_count : (mask : ℕ) → ℕ
bit_count mask = count_by (in_mask mask) (range_with_len 0 16)
