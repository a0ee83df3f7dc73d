-- The answers of calls, as the specification says them.
use Rattle.std.specs.Prelude.{◌≡◌, Result, Ok, Err, Option, Some, None}
use Rattle.mm_line.specs.declared.fault.Problem.{Problem}
use Rattle.mm_draft.specs.declared.source.Source.{Source}
use Rattle.mm_draft.specs.declared.fault.{Failure.Failure, DraftError.{DraftError, TheVariants.{Fault, NoMemory}}}
use Rattle.mm_draft.specs.{Drafts.Draft, Faults.lesser}

-- the draft that was read, or its fault, is the specified one. Nothing is said if memory ran out
abbrev pub Reads : Result Draft DraftError → Result Draft Failure → Type 0
Reads (Ok d) said = said ≡ Ok d
Reads (Err (Fault failure)) said = said ≡ Err failure
Reads (Err NoMemory) said = Unit {0}

-- the draft that a call left, or its fault, is the specified one. Nothing is said if memory ran out
abbrev pub Leaves : {X : Type 0} → Result X DraftError → Draft → Result Draft Failure → Type 0
Leaves (Ok x) new said = said ≡ Ok new
Leaves (Err (Fault failure)) new said = said ≡ Err failure
Leaves (Err NoMemory) new said = Unit {0}

-- a draft, or the fault that comes before it
abbrev pub unless : Option Problem → Source → Draft → Result Draft Failure
unless None source d = Ok d
unless (Some problem) source d = Err (record { source = source; problem = problem })

-- the first of two faults
abbrev pub first_of_both : Option Problem → Option Problem → Option Problem
first_of_both None q = q
first_of_both (Some p) q = lesser p q
