-- What a call answers, and why.
use Rattle.std.specs.{Prelude.{◌≡◌, ◌⊎◌, ℕ, List, [], Option, Result, Ok, Err, OnOk, ⊤}, Io.KnownBytes.append_known}
use Rattle.mm_io.specs.{Files.Rose, Sinks.TookPart}
use Rattle.mm_model.specs.{declared.counts.Counts.Counts, Uses.Use}
use Rattle.mm_load.specs.declared.status.Refusal.{Refusal}
use Rattle.mm_load.specs.declared.status.Status.{Status}
use Rattle.mm_load.specs.declared.status.Status.TheVariants.{Done, Usage, Refused, ReadFault, WriteFault, NoMemory}
use Rattle.mm_load.specs.{declared.status.CommandError.CommandError, Kinds.Value}
use Rattle.mm_load.specs.Files.{Reading, Drawing, FilesAccepted, FilesRefused, FilesFailed, AsksFiles, InputsAccepted}
use Rattle.mm_load.specs.Files.{InputsRefused, InputsFailed, InputsTold, ReadsWhole, ToldInputsRefused}
use Rattle.mm_cli.specs.Table.{Row, files_of, input_of, Matches, InNoRow}
use Rattle.mm_top.specs.Commands.{Declines, Yields}
use Rattle.mm_load.specs.declared.status.CommandError.TheVariants as stop

-- 1. What words come to.

-- What a row comes to once its inputs are read: a refusal, or a text that is to be written.
pub data Answer : Type 0 where
  refuse : Refusal → Answer
  write : List ℕ → Answer

-- what a row comes to, given what the memory tells of uses and, if that is known, what the files hold and standard
-- input has left
abbrev pub RowComesTo : (List Use → Option Counts) → (List ℕ → Option (List ℕ)) → (left : Option (List ℕ)) → Row
    → Answer → Type 0
RowComesTo tells held left row (refuse r) =
    InputsRefused held left (files_of row) (input_of row) r
    ⊎ ((values : List Value) × InputsAccepted held left (files_of row) (input_of row) values × Declines row values r)
RowComesTo tells held left row (write text) = (values : List Value)
    × InputsAccepted held left (files_of row) (input_of row) values × Yields tells row values text

-- What words come to: they are in a row that has this outcome.
pub record ComesTo (tells : List Use → Option Counts) (held : List ℕ → Option (List ℕ)) (left : Option (List ℕ))
    (words : List (List ℕ)) (answer : Answer) : Type 0 where
  pub row : Row
  pub asks : Matches words row
  pub gives : RowComesTo tells held left row answer

-- 2. What a call starts and ends with.

-- What a sink had taken when its writing starts and has taken now, and how many writes of it had failed then and have
-- failed now.
pub record Writing : Type 0 where
  pub taken_before : Option (List ℕ)
  pub taken : Option (List ℕ)
  pub before : ℕ
  pub now : ℕ

abbrev pub writing : {S : Type 0} → (taken : S → Option (List ℕ)) → (faults : S → ℕ) → (old new : S) → Writing
writing taken faults old new
    = record { taken_before = taken old; taken = taken new; before = faults old; now = faults new }

-- What the memory tells of uses, the reading of files and of standard input, and the writing of the text.
pub record Call : Type 1 where
  pub tells : List Use → Option Counts
  pub files : Reading
  pub input : Drawing
  pub out : Writing

abbrev pub call : (List Use → Option Counts) → Reading → Drawing → Writing → Call
call tells files input out = record { tells = tells; files = files; input = input; out = out }

-- 3. Why an answer comes.

-- the fault count of one of the row's inputs rose or is at its last value, and each input before it was accepted
abbrev pub ReadFailed : Reading → Drawing → List (List ℕ) → Type 0
ReadFailed files input words = (row : Row) × Matches words row × InputsFailed files input (files_of row) (input_of row)

-- a call with this answer writes nothing
abbrev pub WritesNothing : Status → Type 0
WritesNothing Done = ⊥
WritesNothing WriteFault = ⊥
WritesNothing _ = ⊤

-- A sink took a prefix of a line, and all of it if its fault count did not rise and is not at its last value.
pub record TookLine (old new : Option (List ℕ)) (before now : ℕ) (line : List ℕ) : Type 0 where
  pub part : TookPart old new line
  pub whole : ¬ Rose before now → new ≡ append_known old line

-- What completeness asks: the words are in a row, its inputs are known and accepted, the row declines their values with
-- no refusal, and no fault count that the row depends on rose or is at its last value.
pub record NothingFails (c : Call) (words : List (List ℕ)) : Type 0 where
  pub row : Row
  pub asks : Matches words row
  pub told : InputsTold c.files.held c.input.left (files_of row) (input_of row)
  pub values : List Value
  pub accepted : InputsAccepted c.files.held c.input.left (files_of row) (input_of row) values
  pub unrefused : (r : Refusal) → ¬ Declines row values r
  pub read : ¬ InputsFailed c.files c.input (files_of row) (input_of row)
  pub written : ¬ Rose c.out.before c.out.now

-- why a refusal has to come: an input is refused, the inputs before it are accepted, and what all these hold is known;
-- or what all inputs hold is known, all are accepted, and the row declines their values
abbrev pub ToldToRefuse : (List ℕ → Option (List ℕ)) → (left : Option (List ℕ)) → Row → Refusal → Type 0
ToldToRefuse held left row r =
    ToldInputsRefused held left (files_of row) (input_of row) r
    ⊎ (InputsTold held left (files_of row) (input_of row)
    × ((values : List Value) × InputsAccepted held left (files_of row) (input_of row) values × Declines row values r))

-- A refusal that has to come: the words are in a row that has to give it.
pub record HasToRefuse (held : List ℕ → Option (List ℕ)) (left : Option (List ℕ)) (words : List (List ℕ)) (r : Refusal)
    : Type 0 where
  pub row : Row
  pub asks : Matches words row
  pub why : ToldToRefuse held left row r

-- the answer is this refusal, unless a read failed or memory ran out
abbrev pub RefusedUnless : Refusal → Status → Type 0
RefusedUnless r (Refused q) = q ≡ r
RefusedUnless r ReadFault = ⊤
RefusedUnless r NoMemory = ⊤
RefusedUnless r _ = ⊥

-- 4. What the parts of the program answer.

-- How a command ends: with the whole text that it is to write, or because it is refused, reading or writing fails, or
-- memory runs out.
abbrev pub Ends : Writing → (Refuses : Refusal → Type 0) → (Fails : Type 0) → (IsText : List ℕ → Type 0)
    → Result (Unit {0}) CommandError → Type 0
Ends out Refuses Fails IsText (Ok done) = (text : List ℕ) × IsText text
    × (out.taken ≡ append_known out.taken_before text)
Ends out Refuses Fails IsText (Err (stop.Refused r)) = Refuses r × (out.taken ≡ out.taken_before)
Ends out Refuses Fails IsText (Err stop.ReadFault) = Fails × (out.taken ≡ out.taken_before)
Ends out Refuses Fails IsText (Err stop.WriteFault) =
    (text : List ℕ) × IsText text × TookPart out.taken_before out.taken text × Rose out.before out.now
Ends out Refuses Fails IsText (Err stop.NoMemory) = out.taken ≡ out.taken_before

-- how a command ends after its inputs are read, if it refuses nothing
abbrev pub EndsWith : Writing → (IsText : List ℕ → Type 0) → Result (Unit {0}) CommandError → Type 0
EndsWith out IsText result = Ends out (λ r. ⊥) ⊥ IsText result

-- how the command of a row ends if it reads files alone; `Text` says what the command writes, given the values of the
-- files
abbrev pub FilesEnd : (files : Reading) (out : Writing) (Text : Row → List Value → List ℕ → Type 0) → Row
    → Result (Unit {0}) CommandError → Type 0
FilesEnd files out Text row result =
    Ends out (λ r. FilesRefused files.held [] (files_of row) r
    ⊎ ((values : List Value) × FilesAccepted files.held [] (files_of row) values × Declines row values r))
    (FilesFailed files [] (files_of row))
    (λ text. (values : List Value) × FilesAccepted files.held [] (files_of row) values × Text row values text)
    result

-- What the command of a row answers if it reads files alone.
pub record CommandEnds (files : Reading) (out : Writing) (Text : Row → List Value → List ℕ → Type 0) (row : Row)
    (result : Result (Unit {0}) CommandError) : Type 0 where
  pub ends : FilesEnd files out Text row result
  pub asked : AsksFiles files [] (files_of row)
  pub whole : OnOk result (ReadsWhole files (files_of row))

-- how the command of a row ends
abbrev pub RowEnds : Call → Row → Result (Unit {0}) CommandError → Type 0
RowEnds c row result =
    Ends c.out (λ r. RowComesTo c.tells c.files.held c.input.left row (refuse r))
    (InputsFailed c.files c.input (files_of row) (input_of row))
    (λ text. RowComesTo c.tells c.files.held c.input.left row (write text)) result

-- the status at the end of a command
abbrev pub status_of : Result (Unit {0}) CommandError → Status
status_of (Ok done) = Done
status_of (Err (stop.Refused r)) = Refused r
status_of (Err stop.ReadFault) = ReadFault
status_of (Err stop.WriteFault) = WriteFault
status_of (Err stop.NoMemory) = NoMemory

-- What the answer to a row says.
pub record RowAnswers (c : Call) (words : List (List ℕ)) (status : Status) : Type 0 where
  pub row : Row
  pub result : Result (Unit {0}) CommandError
  pub asks : Matches words row
  pub ends : RowEnds c row result
  pub asked : AsksFiles c.files [] (files_of row)
  pub whole : OnOk result (ReadsWhole c.files (files_of row))
  pub answers : status ≡ status_of result

-- What an answer to words says.
pub record Answers (c : Call) (words : List (List ℕ)) (status : Status) : Type 0 where
  pub cases : (InNoRow words × (status ≡ Usage) × (c.out.taken ≡ c.out.taken_before)) ⊎ RowAnswers c words status
