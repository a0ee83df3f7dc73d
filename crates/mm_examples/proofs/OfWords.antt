-- Words, computed.
use Rattle.std.proofs.Common.{refl}
use Rattle.mm_isa.specs.{Table.packed, Decode.{fields_in, rows, row_of, instr_of}}
use Rattle.mm_examples.specs.WorkedWords.{MakesPointers, MakesNone, Moves, MovesFromTheBase, Restricts, Shortens}
use Rattle.mm_examples.specs.WorkedWords.{Advances, JumpsTo, Accesses, IntegersAreNoPointers, ReadsWords}
use Rattle.mm_examples.specs.WorkedWords.{ReadsArithmetic, ReadsNone, Calculates}

pub makes_pointers : MakesPointers
makes_pointers = refl

pub makes_none : MakesNone
makes_none = refl

pub moves : Moves
moves = refl

pub moves_from_the_base : MovesFromTheBase
moves_from_the_base = refl

pub restricts : Restricts
restricts = refl

pub shortens : Shortens
shortens = refl

pub advances : Advances
advances = refl

pub jumps_to : JumpsTo
jumps_to = refl

pub accesses : Accesses
accesses = refl

pub integers_are_no_pointers : IntegersAreNoPointers
integers_are_no_pointers = refl

pub reads_words : ReadsWords
unfolding packed fields_in rows row_of instr_of
reads_words = refl

pub reads_arithmetic : ReadsArithmetic
unfolding packed fields_in rows row_of instr_of
reads_arithmetic = refl

pub reads_none : ReadsNone
unfolding packed fields_in rows row_of instr_of
reads_none = refl

pub calculates : Calculates
calculates = refl
