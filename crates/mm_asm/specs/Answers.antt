-- The answers of the assembler, and the first of the faults that it meets.
use Rattle.std.specs.{Prelude.{◌≡◌, List, map, Option, Some, None}, Option.option_map}
use Rattle.mm_line.specs.Faults.{number_of}
use Rattle.mm_draft.specs.declared.fault.{Failure.Failure, DraftError.DraftError}
use Rattle.mm_draft.specs.Laws.{Pair, failure_pair, sooner, least}
use Rattle.mm_asm.specs.declared.fault.AsmError.{AsmError}
use Rattle.mm_draft.specs.declared.fault.DraftError.TheVariants as early
use Rattle.mm_asm.specs.declared.fault.AsmError.TheVariants as errors

-- 1. Answers.

-- the error names the fault, unless memory ran out
abbrev pub Fails : Option Pair → AsmError → Type 0
Fails fault (errors.Fault kind line column) =
    fault ≡ Some (record { line = line; column = column; number = number_of kind })
Fails fault errors.NoMemory = Unit {0}

-- the pair of a fault that stopped the reading, unless memory ran out
abbrev pub pair_of_error : DraftError → Option Pair
pair_of_error (early.Fault failure) = Some (failure_pair failure)
pair_of_error early.NoMemory = None

-- 2. The first of the faults that were met.

abbrev pub either : Option Pair → Option Pair → Option Pair
either None q = q
either (Some p) q = sooner p q

abbrev pub pair_of_first : Option Failure → Option Pair
pair_of_first first = option_map failure_pair first

-- these failures were met between two times: the later first fault is the least of the earlier first one and of them
pub record Meets (old new : Option Failure) (failures : List Failure) : Type 0 where
  pub least : pair_of_first new ≡ either (pair_of_first old) (least (map failure_pair failures))
