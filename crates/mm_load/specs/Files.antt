-- The inputs of a command, each read and parsed before the next: its files, and after them standard input if the
-- command reads it.
use Rattle.std.specs.Prelude.{◌≡◌, ◌⊎◌, ℕ, ◌+◌, ◌≤◌, List, [], ◌∷◌, ◌++◌, length, map, String, string_bytes, Option}
use Rattle.std.specs.{Prelude.{Some, None, IsSome, Result, IfOk, IfErr, OnOk, ⊤}, declared.alloc.Global.Global}
use Rattle.std.specs.List.{AllByRecursion}
use Rattle.mm_word.specs.Adding.{Adds}
use Rattle.mm_io.specs.Files.{Rose, Holds, IsLonger, PieceRead, AreOf, FrontToEnd}
use Rattle.mm_load.specs.declared.status.{Refusal.{Refusal, TheVariants.TooLong}, CommandError.CommandError}
use Rattle.mm_load.specs.Kinds.{Value, limit_of, Accepts, Faults}
use Rattle.mm_cli.specs.declared.table.Kind.{Kind}
use Rattle.mm_load.specs.declared.status.CommandError.TheVariants as stop

-- 1. One input. `told` is what the input holds, if that is known.

-- The input is accepted, and this is its value.
pub record Accepted (kind : Kind) (before : List Value) (told : Option (List ℕ)) (value : Value) : Type 0 where
  pub bytes : List ℕ
  pub holds : Holds told bytes
  pub short : length bytes ≤ limit_of kind
  pub means : Accepts kind before bytes value

-- The input is longer than its limit.
abbrev pub IsTooLong : ℕ → (number : ℕ) → Option (List ℕ) → Refusal → Type 0
IsTooLong limit number told r = (r ≡ TooLong number) × IsLonger told limit

-- The bytes of the input mean no value.
pub record IsFaulty (kind : Kind) (before : List Value) (number : ℕ) (told : Option (List ℕ)) (r : Refusal) : Type 0
  where
    pub bytes : List ℕ
    pub holds : Holds told bytes
    pub short : length bytes ≤ limit_of kind
    pub fault : Faults kind before number bytes r

-- The input with this number is refused, after inputs with the values before. Files are counted from 1, and standard
-- input has number 0.
abbrev pub InputRefused : Kind → (before : List Value) → (number : ℕ) → Option (List ℕ) → Refusal → Type 0
InputRefused kind before number told r = IsTooLong (limit_of kind) number told r ⊎ IsFaulty kind before number told r

-- 2. Files by their names, after files with the values before.

-- each file is accepted, and these are the values of the files
abbrev pub FilesAccepted : (List ℕ → Option (List ℕ)) → (before : List Value) → List (List ℕ × Kind) → List Value
    → Type 0
FilesAccepted held before [] [] = ⊤
FilesAccepted held before (file ∷ files) (v ∷ values) = Accepted file.1 before (held file.0) v
    × FilesAccepted held (before ++ v ∷ []) files values
FilesAccepted held before _ _ = ⊥

-- one file is refused, and the files before it are accepted
abbrev pub FilesRefused : (List ℕ → Option (List ℕ)) → (before : List Value) → List (List ℕ × Kind) → Refusal → Type 0
FilesRefused held before [] r = ⊥
FilesRefused held before (file ∷ files) r =
    InputRefused file.1 before (length before + 1) (held file.0) r
    ⊎ ((v : Value) × Accepted file.1 before (held file.0) v × FilesRefused held (before ++ v ∷ []) files r)

-- What the files hold when their reading starts, if that is known, how many reads of each name had failed then and have
-- failed now, and which reads were asked for in between.
pub record Reading : Type 1 where
  pub held : List ℕ → Option (List ℕ)
  pub before : List ℕ → ℕ
  pub now : List ℕ → ℕ
  pub asks : List PieceRead → Type 0

abbrev pub reading : {F : Type 0} → (held : F → List ℕ → Option (List ℕ)) → (faults : F → List ℕ → ℕ)
    → (asked : F → List PieceRead → Type 0)
    → (old new : F) → Reading
reading held faults asked old new
    = record { held = held old; before = faults old; now = faults new; asks = Adds asked old new }

-- the fault count of a file's name rose or is at its last value, and the files before it are accepted
abbrev pub FilesFailed : Reading → (before : List Value) → List (List ℕ × Kind) → Type 0
FilesFailed r before [] = ⊥
FilesFailed r before (file ∷ files) =
    Rose (r.before file.0) (r.now file.0)
    ⊎ ((v : Value) × Accepted file.1 before (r.held file.0) v × FilesFailed r (before ++ v ∷ []) files)

-- what each file holds is known
abbrev pub FilesTold : (List ℕ → Option (List ℕ)) → List (List ℕ × Kind) → Type 0
FilesTold held files = AllByRecursion (λ (file : List ℕ × Kind). IsSome (held file.0)) files

-- These are reads of the files in their order: any number of the first and then, only if that file is accepted, reads
-- of the files after it.
abbrev pub AsksInOrder : (List ℕ → Option (List ℕ)) → (before : List Value) → List (List ℕ × Kind)
    → (reads : List PieceRead)
    → Type 0
AsksInOrder held before [] reads = reads ≡ []
AsksInOrder held before (file ∷ files) reads =
    (mine : List PieceRead) × (later : List PieceRead) × (reads ≡ mine ++ later) × AreOf file.0 mine
    × ((later ≡ [])
    ⊎ ((v : Value) × Accepted file.1 before (held file.0) v × AsksInOrder held (before ++ v ∷ []) files later))

-- Reads ask for these files in their order, and for no other file.
pub record AsksFiles (r : Reading) (before : List Value) (files : List (List ℕ × Kind)) : Type 0 where
  pub reads : List PieceRead
  pub asked : r.asks reads
  pub in_order : AsksInOrder r.held before files reads

-- These reads go through the files in their order, each from its front to its end.
abbrev pub GoThrough : (List ℕ → Option (List ℕ)) → List (List ℕ × Kind) → (reads : List PieceRead) → Type 0
GoThrough held [] reads = reads ≡ []
GoThrough held (file ∷ files) reads =
    (bytes : List ℕ) × (mine : List PieceRead) × (later : List PieceRead) × (reads ≡ mine ++ later)
    × Holds (held file.0) bytes × FrontToEnd file.0 (length bytes) mine × GoThrough held files later

-- Reads went through each of these files, and no other was read.
pub record ReadsWhole (r : Reading) (files : List (List ℕ × Kind)) : Type 0 where
  pub reads : List PieceRead
  pub asked : r.asks reads
  pub through : GoThrough r.held files reads

-- 3. Standard input, after files by their names, if a command reads it as an input of a kind.

-- What standard input has left when its reading starts, if that is known, and how many reads of it had failed then and
-- have failed now.
pub record Drawing : Type 0 where
  pub left : Option (List ℕ)
  pub before : ℕ
  pub now : ℕ

abbrev pub drawing : {I : Type 0} → (left : I → Option (List ℕ)) → (faults : I → ℕ) → (old new : I) → Drawing
drawing left faults old new = record { left = left old; before = faults old; now = faults new }

-- a statement holds, unless each of the files is accepted
abbrev pub DrawnBehind : (List ℕ → Option (List ℕ)) → List (List ℕ × Kind) → Type 0 → Type 0
DrawnBehind held files Undrawn = Undrawn ⊎ ((values : List Value) × FilesAccepted held [] files values)

-- each input is accepted, and these are their values
abbrev pub InputsAccepted : (List ℕ → Option (List ℕ)) → (left : Option (List ℕ)) → List (List ℕ × Kind) → Option Kind
    → List Value → Type 0
InputsAccepted held left files None values = FilesAccepted held [] files values
InputsAccepted held left files (Some kind) values =
    (before : List Value) × (last : Value) × (values ≡ before ++ last ∷ []) × FilesAccepted held [] files before
    × Accepted kind before left last

-- one input is refused, and the inputs before it are accepted
abbrev pub InputsRefused : (List ℕ → Option (List ℕ)) → (left : Option (List ℕ)) → List (List ℕ × Kind) → Option Kind
    → Refusal → Type 0
InputsRefused held left files None r = FilesRefused held [] files r
InputsRefused held left files (Some kind) r =
    FilesRefused held [] files r
    ⊎ ((before : List Value) × FilesAccepted held [] files before × InputRefused kind before 0 left r)

-- the fault count of an input rose or is at its last value, and the inputs before it are accepted
abbrev pub InputsFailed : Reading → Drawing → List (List ℕ × Kind) → Option Kind → Type 0
InputsFailed r d files None = FilesFailed r [] files
InputsFailed r d files (Some kind) = FilesFailed r [] files
    ⊎ ((before : List Value) × FilesAccepted r.held [] files before × Rose d.before d.now)

-- what each input holds is known
abbrev pub InputsTold : (List ℕ → Option (List ℕ)) → (left : Option (List ℕ)) → List (List ℕ × Kind) → Option Kind
    → Type 0
InputsTold held left files None = FilesTold held files
InputsTold held left files (Some kind) = FilesTold held files × IsSome left

-- 4. Inputs that have to be refused.

-- one file is refused, and the files before it are accepted; what it and each file before it hold is known
abbrev pub ToldFilesRefused : (List ℕ → Option (List ℕ)) → (before : List Value) → List (List ℕ × Kind) → Refusal
    → Type 0
ToldFilesRefused held before [] r = ⊥
ToldFilesRefused held before (file ∷ files) r =
    IsSome (held file.0)
    × (InputRefused file.1 before (length before + 1) (held file.0) r
    ⊎ ((v : Value) × Accepted file.1 before (held file.0) v × ToldFilesRefused held (before ++ v ∷ []) files r))

-- Standard input is refused, and the files before it are accepted; what each of these inputs holds is known.
pub record ToldInputRefused (held : List ℕ → Option (List ℕ)) (left : Option (List ℕ)) (files : List (List ℕ × Kind))
    (kind : Kind) (r : Refusal) : Type 0 where
  pub told : FilesTold held files
  pub before : List Value
  pub accepted : FilesAccepted held [] files before
  pub input_told : IsSome left
  pub refused : InputRefused kind before 0 left r

abbrev pub ToldInputsRefused : (List ℕ → Option (List ℕ)) → (left : Option (List ℕ)) → List (List ℕ × Kind)
    → Option Kind → Refusal → Type 0
ToldInputsRefused held left files None r = ToldFilesRefused held [] files r
ToldInputsRefused held left files (Some kind) r = ToldFilesRefused held [] files r
    ⊎ ToldInputRefused held left files kind r

-- 5. What the reading of inputs answers.

-- Why the reading stops: a refusal, a fault of the files, or a lack of memory.
abbrev pub Stops : (Refusal → Type 0) → Type 0 → CommandError → Type 0
Stops Refuses Fails (stop.Refused r) = Refuses r
Stops Refuses Fails stop.ReadFault = Fails
Stops Refuses Fails stop.WriteFault = ⊥
Stops Refuses Fails stop.NoMemory = ⊤

-- The reading of files answers their values, and then has read each from its front to its end; or it answers why it
-- stops. It asks for their names in order.
pub record FilesRead {T : Type 0} (r : Reading) (before : List Value) (files : List (List ℕ × Kind))
    (values : T → List Value)
    (result : Result T CommandError) : Type 0 where
  pub accepted : IfOk result (λ t. FilesAccepted r.held before files (values t))
  pub stopped : IfErr result (Stops (FilesRefused r.held before files) (FilesFailed r before files))
  pub asked : AsksFiles r before files
  pub whole : OnOk result (ReadsWhole r files)

-- The reading of standard input answers its value, or why it stops.
pub record InputRead {T : Type 0} (d : Drawing) (before : List Value) (kind : Kind) (value : T → Value)
    (result : Result T CommandError) : Type 0 where
  pub accepted : IfOk result (λ t. Accepted kind before d.left (value t))
  pub stopped : IfErr result (Stops (InputRefused kind before 0 d.left) (Rose d.before d.now))

-- 6. Files by the words that name them.

-- files of a kind with these names
abbrev pub files_named : Kind → List (String Global) → List (List ℕ × Kind)
files_named kind names = map (λ (name : String Global). (string_bytes name, kind)) names
