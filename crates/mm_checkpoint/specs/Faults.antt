-- The first fault of a checkpoint's file, read against its image.
--
-- Of a fault only its offset in the file is answered. The numbers of the format are those that a reader of images gives
-- to faults of the same kind: 1 a field that is not whole, 2 magic, 3 version, 4 a number or a flag outside its range,
-- 7 a place in a queue, 8 a state, 9 a word, 10 an instruction pointer, 11 the order of pages, 12 the count of pages,
-- 13 a byte too many.
use Rattle.std.specs.{Prelude.{ℕ, List, Option}, Option.option_map}
use Rattle.mm_model.specs.Image.{Image}
use Rattle.mm_format.specs.Formats.{Parsed, after, file, fault_in, Parsed.Got}
use Rattle.mm_checkpoint.specs.{Checkpoints.Saved, Format.{checkpoint, saved_in}}

-- what a file says of an image: the parts of a checkpoint, or the first fault in the order of reading
unfoldable pub said_of : Image → List ℕ → Parsed Saved
said_of i bytes = after (file (checkpoint i) 13 bytes) (λ contents next. Got (saved_in contents) next)

-- the number and the offset of the first fault, if there is one
abbrev pub first_fault : Image → List ℕ → Option (ℕ × ℕ)
first_fault i bytes = fault_in (said_of i bytes)

-- the offset of the first fault, if there is one
abbrev pub save_fault : Image → List ℕ → Option ℕ
save_fault i bytes = option_map (λ fault. fault.1) (first_fault i bytes)
