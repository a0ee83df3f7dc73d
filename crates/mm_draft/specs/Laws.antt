-- What stops the reading of a text is the least of its early faults.
use Rattle.std.specs.Prelude.{◌≡◌, ℕ, ◌+◌, ◌-◌, ◌==◌, nat_lt, Bool, ◌&&◌, ◌||◌, if◌then◌else◌, List, [], ◌∷◌, ◌++◌, map}
use Rattle.std.specs.Prelude.{length, Option, Some, None, Result, Ok, Err}
use Rattle.mm_line.specs.{declared.fault.Problem.Problem, Faults.number_of, Statements.line_of}
use Rattle.mm_draft.specs.{Drafts.{Draft, nothing, add_line}, declared.fault.Failure.Failure}
use Rattle.mm_draft.specs.Faults.{source_of, line_faults, lines_of, draft_of}

-- a place of a text, counted from 1 in lines and bytes, and the number of a fault there
pub record Pair : Type 0 where
  pub line : ℕ
  pub column : ℕ
  pub number : ℕ

-- the position and the number of a fault; a missing token is at the column after the line's last byte
abbrev pub pair_of : ℕ → ℕ → Problem → Pair
pair_of line size problem = record {
  line = line + 1;
  column = size - problem.left + 1;
  number = number_of problem.fault;
}

abbrev pub failure_pair : Failure → Pair
failure_pair f = pair_of f.source.line f.source.size f.problem

-- the early faults of the lines from a number on, each line against what the lines before it say
abbrev pub all_from : ℕ → Draft → List (List ℕ) → List Pair
all_from number d [] = []
all_from number d (bytes ∷ more) =
    map (pair_of number (length bytes)) (line_faults d (line_of bytes))
    ++ all_from (number + 1) (add_line (source_of number bytes) (line_of bytes) d) more

-- the early faults of a text: those that are seen when its lines are read. Of a label or a statement that cannot be
-- read, only the first of its own faults is among them
abbrev pub early_faults : List ℕ → List Pair
early_faults text = all_from 0 nothing (lines_of text)

-- a fault is at a lesser position or, at the same one, of a lesser number
abbrev pub precedes : Pair → Pair → Bool
precedes p q = nat_lt p.line q.line || p.line == q.line && (nat_lt p.column q.column || p.column == q.column
    && nat_lt p.number q.number)

abbrev pub sooner : Pair → Option Pair → Option Pair
sooner p None = Some p
sooner p (Some q) = if precedes q p then Some q else Some p

abbrev pub least : List Pair → Option Pair
least [] = None
least (p ∷ pairs) = sooner p (least pairs)

abbrev pub fault_of : Result Draft Failure → Option Pair
fault_of (Ok d) = None
fault_of (Err failure) = Some (failure_pair failure)

-- what stops the reading of a text is the least of its early faults; if there are none, nothing stops it
abbrev pub TheFirstIsTheLeast : Type 0
TheFirstIsTheLeast = (text : List ℕ) → fault_of (draft_of text) ≡ least (early_faults text)
