-- The faults of assembler text.
use Rattle.std.specs.Prelude.{ℕ}
use Rattle.mm_line.specs.declared.fault.Fault.{Fault}
use Rattle.mm_line.specs.declared.fault.Fault.TheVariants.{Byte, Token, Name, Range, Label, Twice, Place, Full, Limit}

abbrev pub number_of : Fault → ℕ
number_of Byte = 1
number_of Token = 2
number_of Name = 3
number_of Range = 4
number_of Label = 5
number_of Twice = 6
number_of Place = 7
number_of Full = 8
number_of Limit = 9
