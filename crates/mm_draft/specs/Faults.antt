-- The faults that are seen when lines are read, each against the lines before it, and the draft of a text.
use Rattle.std.specs.Prelude.{ℕ, ◌+◌, ◌-◌, ◌^◌, ◌==◌, nat_lt, nat_le, Bool, true, false, ◌&&◌, ◌||◌, if◌then◌else◌}
use Rattle.std.specs.Prelude.{List, [], ◌∷◌, ◌++◌, length, Option, Some, None, is_some, is_none, Result, Ok, Err}
use Rattle.std.specs.List.{list_any, slice_split}
use Prim.Native.Char.{code}
use Rattle.mm_line.specs.declared.fault.{Fault.{Fault, TheVariants.{Twice, Place, Full, Limit}}, Problem.Problem}
use Rattle.mm_line.specs.declared.{name.Mark.Mark, statement.{Content.Content, Statement.Statement}}
use Rattle.mm_line.specs.{declared.line.{Claim.Claim, Body.Body, Line.Line}, Faults.number_of, Statements.line_of}
use Rattle.mm_draft.specs.declared.{source.Source.Source, fault.Failure.Failure}
use Rattle.mm_draft.specs.Drafts.{Segment, Thread, Draft, nothing, place_of, last, words_of, pointers_of, is_pointer}
use Rattle.mm_draft.specs.Drafts.{add_maybe_label, add_line}
use Rattle.mm_model.specs.Limits.{segment_limit, word_limit, reloc_limit}
use Rattle.mm_line.specs.declared.statement.Statement.TheVariants as statement
use Rattle.mm_line.specs.declared.line.Claim.TheVariants as claims

-- the count of words that a segment of this size has room for
abbrev pub room_of : Segment → ℕ
room_of s = 2 ^ (s.log - 3)

-- 1. The faults of a line after a draft.

abbrev pub fault_if : Bool → Fault → ℕ → List Problem
fault_if bad fault left = if bad then record { fault = fault; left = left } ∷ [] else []

abbrev pub is_named : Draft → List ℕ → Bool
is_named d name = is_some (place_of d name)

abbrev pub has_slot : Draft → ℕ → Bool
has_slot d slot = list_any (λ t. t.slot == slot) d.threads

abbrev pub has_register : Option Thread → ℕ → Bool
has_register None number = false
has_register (Some t) number = list_any (λ r. r.number == number) t.registers

-- the faults of a label: it is before the first segment, or there already
abbrev pub label_faults : Draft → Mark → List Problem
label_faults d mark = fault_if (is_none (last d.segments)) Place mark.left
    ++ fault_if (is_named d mark.name) Twice mark.left

-- the fault of a claim: what it names is there already
abbrev pub claim_faults : Draft → Option Claim → List Problem
claim_faults d None = []
claim_faults d (Some (claims.Spare left)) = fault_if (is_some d.spare) Twice left
claim_faults d (Some (claims.Segment mark)) = fault_if (is_named d mark.name) Twice mark.left
claim_faults d (Some (claims.Slot slot left)) = fault_if (has_slot d slot) Twice left
claim_faults d (Some (claims.Register number left)) = fault_if (has_register (last d.threads) number) Twice left

-- the faults of further words, of which some become pointers: they are before the first segment, past the segment's
-- size, or past a limit
abbrev pub words_faults : Draft → ℕ → ℕ → ℕ → Option Segment → List Problem
words_faults d words pointers left None = fault_if true Place left
words_faults d words pointers left (Some s) =
    fault_if (nat_lt (room_of s) (length s.words + words)) Full left
    ++ fault_if (nat_lt word_limit (words_of d.segments + words)
    || nat_lt reloc_limit (pointers_of d.segments + pointers)) Limit left

abbrev pub one_if_pointer : Content → ℕ
one_if_pointer what = if is_pointer what then 1 else 0

-- the faults of a statement that has none of its own, at its first token
unfoldable pub statement_faults : Draft → ℕ → Statement → List Problem
statement_faults d left (statement.Spare frames) = []
statement_faults d left (statement.Begin mark log) = fault_if (nat_le segment_limit (length d.segments)) Limit left
statement_faults d left (statement.Fill words) = words_faults d words 0 left (last d.segments)
statement_faults d left (statement.Word full what) = words_faults d 1 (one_if_pointer what) left (last d.segments)
statement_faults d left (statement.Thread slot group handler perm target) = []
statement_faults d left (statement.Register number value) = fault_if (is_none (last d.threads)) Place left

abbrev pub reading_faults : Draft → ℕ → Result Statement Problem → List Problem
reading_faults d left (Ok s) = statement_faults d left s
reading_faults d left (Err problem) = problem ∷ []

abbrev pub body_faults : Draft → Option Body → List Problem
body_faults d None = []
body_faults d (Some body) = claim_faults d body.claim ++ reading_faults d body.left body.reading

abbrev pub maybe_label_faults : Draft → Option (Result Mark Problem) → List Problem
maybe_label_faults d None = []
maybe_label_faults d (Some (Ok mark)) = label_faults d mark
maybe_label_faults d (Some (Err problem)) = problem ∷ []

-- the faults of a line that are seen when it is read: those of its label, those of the claim of the statement after
-- the label, and those of the statement. Of a label or a statement that cannot be read, only the first of its own is
-- seen
unfoldable pub line_faults : Draft → Line → List Problem
line_faults d line = maybe_label_faults d line.label ++ body_faults (add_maybe_label line.label d) line.body

-- 2. The first fault.

-- a fault is before another in its line: at an earlier place or, at the same place, with the lesser number. A place is
-- the count of bytes of the line from there on, so the earlier place is the greater count
abbrev pub is_before : Problem → Problem → Bool
is_before p q = nat_lt q.left p.left || p.left == q.left && nat_lt (number_of p.fault) (number_of q.fault)

abbrev pub lesser : Problem → Option Problem → Option Problem
lesser p None = Some p
lesser p (Some q) = if is_before q p then Some q else Some p

abbrev pub first_of : List Problem → Option Problem
first_of [] = None
first_of (p ∷ problems) = lesser p (first_of problems)

abbrev pub source_of : ℕ → List ℕ → Source
source_of number bytes = record { line = number; size = length bytes }

abbrev pub step_by : Option Problem → Source → Line → Draft → Result Draft Failure
step_by None source line d = Ok (add_line source line d)
step_by (Some problem) source line d = Err (record { source = source; problem = problem })

-- the draft with this line, or the first fault of the line after the draft
unfoldable pub step : ℕ → List ℕ → Draft → Result Draft Failure
step number bytes d = step_by (first_of (line_faults d (line_of bytes))) (source_of number bytes) (line_of bytes) d

infixl 10 ◌then◌
abbrev pub ◌then◌ : Result Draft Failure → (Draft → Result Draft Failure) → Result Draft Failure
(Ok d) then f = f d
(Err failure) then f = Err failure

-- the draft with the lines from a number on, up to the first fault
unfoldable pub lines_from : ℕ → Draft → List (List ℕ) → Result Draft Failure
lines_from number d [] = Ok d
lines_from number d (bytes ∷ more) = step number bytes d then λ e. lines_from (number + 1) e more

-- a line ends at a newline or at the end of the text
abbrev pub lines_of : List ℕ → List (List ℕ)
lines_of text = slice_split (λ b. b == code "\n") text

-- the draft of a text, or the first fault that is seen when its lines are read
unfoldable pub draft_of : List ℕ → Result Draft Failure
draft_of text = lines_from 0 nothing (lines_of text)
