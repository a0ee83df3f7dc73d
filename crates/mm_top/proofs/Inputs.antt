-- A row that reads standard input behind its files.
use Rattle.std.proofs.Common.{◌≡◌, ℕ, inl, inr, List, [], ◌∷◌, ◌++◌, Option, None, Some, true, false, Result, Ok, Err}
use Rattle.std.{proofs.Common.{refl, sym, subst}, specs.{Option.IsSome, Result.{IsErrAnd, OnOk}}}
use Rattle.mm_io.specs.Files.{Rose}
use Rattle.mm_model.specs.{declared.counts.Counts.Counts, Uses.Use}
use Rattle.mm_load.specs.{declared.status.{Status.TheVariants.Done, CommandError.CommandError}, Kinds.Value}
use Rattle.mm_load.specs.Files.{Reading, Drawing, DrawnBehind, FilesRead, FilesAccepted, FilesRefused, FilesFailed}
use Rattle.mm_load.specs.Files.{InputRead, InputRefused, InputsAccepted, InputsRefused, InputsFailed, Stops}
use Rattle.mm_load.proofs.Reading.{stops_first}
use Rattle.mm_cli.{specs.{declared.table.Kind.Kind, Table.{Row, Matches, files_of, input_of}}, proofs.Rows.one_row}
use Rattle.mm_top.specs.{Commands.Yields, Answers.{Call, call, Writing, EndsWith, RowEnds, status_of}}
use Rattle.mm_load.specs.declared.status.CommandError.TheVariants as stop

-- 1. Files, and standard input behind them.

-- Their reading stops so.
pub record InputsStop (r : Reading) (d : Drawing) (files : List (List ℕ × Kind)) (kind : Option Kind) (s : CommandError) : Type 0 where
  pub why : Stops (InputsRefused r.held d.left files kind) (InputsFailed r d files kind) s

stop_of_files : (r : Reading) (d : Drawing) (files : List (List ℕ × Kind)) (kind : Kind) (s : CommandError) → Stops (FilesRefused r.held [] files) (FilesFailed r [] files) s
    → Stops (InputsRefused r.held d.left files (Some kind)) (InputsFailed r d files (Some kind)) s
stop_of_files r d files kind (stop.Refused q) says = inl says
stop_of_files r d files kind stop.ReadFault says = inl says
stop_of_files r d files kind stop.WriteFault says = says
stop_of_files r d files kind stop.NoMemory says = says

-- where that of the files does
pub files_stop : {T : Type 0} {r : Reading} {xs : List (List ℕ × Kind)} {values : T → List Value} {s : CommandError} (d : Drawing) (kind : Kind) (files ys : List (List ℕ × Kind))
    → FilesRead r [] xs values (Err s) → files ≡ xs ++ ys → InputsStop r d files (Some kind) s
files_stop {r = r} {xs = xs} {s = s} d kind files ys read first =
    let P : List (List ℕ × Kind) → Type 0 = λ fs. Stops (FilesRefused r.held [] fs) (FilesFailed r [] fs) s in
    record { why = stop_of_files r d files kind s (subst P (sym first) (stops_first r ys [] xs s read.stopped)) }

stop_behind : (r : Reading) (d : Drawing) (files : List (List ℕ × Kind)) (kind : Kind) (before : List Value) (s : CommandError) → FilesAccepted r.held [] files before
    → Stops (InputRefused kind before 0 d.left) (Rose d.before d.now) s → Stops (InputsRefused r.held d.left files (Some kind)) (InputsFailed r d files (Some kind)) s
stop_behind r d files kind before (stop.Refused q) front says = inr (before, front, says)
stop_behind r d files kind before stop.ReadFault front says = inr (before, front, says)
stop_behind r d files kind before stop.WriteFault front says = says
stop_behind r d files kind before stop.NoMemory front says = says

-- or where the files are read, and that of standard input does
pub input_stops : {T U : Type 0} {r : Reading} {d : Drawing} {files : List (List ℕ × Kind)} {kind : Kind} {values : T → List Value} {value : U → Value} {t : T} {s : CommandError}
    → FilesRead r [] files values (Ok t) → InputRead d (values t) kind value (Err s) → InputsStop r d files (Some kind) s
input_stops {r = r} {d = d} {files = files} {kind = kind} {values = values} {t = t} {s = s} front back =
    record { why = stop_behind r d files kind (values t) s front.accepted back.stopped }

-- 2. The answer to a row.

stopped : (c : Call) (row : Row) (s : CommandError) → Stops (InputsRefused c.files.held c.input.left (files_of row) (input_of row)) (InputsFailed c.files c.input (files_of row) (input_of row)) s
    → c.out.taken ≡ c.out.taken_before → RowEnds c row (Err s)
stopped c row (stop.Refused r) says same = (inl says, same)
stopped c row stop.ReadFault says same = (says, same)
stopped c row stop.WriteFault says same = absurd says
stopped c row stop.NoMemory says same = same

-- the reading of its inputs stops
pub row_stopped : {files : Reading} {input : Drawing} {s : CommandError} (tells : List Use → Option Counts) (out : Writing) (row : Row) (result : Result (Unit {0}) CommandError)
    → InputsStop files input (files_of row) (input_of row) s → out.taken ≡ out.taken_before → IsErrAnd result (λ e. e ≡ s) → RowEnds (call tells files input out) row result
row_stopped tells out row (Ok done) stops same is = absurd is
row_stopped {files = files} {input = input} {s = s} tells out row (Err e) stops same is =
    let c = call tells files input out in
    subst (λ (x : CommandError). RowEnds c row (Err x)) (sym is) (stopped c row s stops.why same)

writes_from : (c : Call) (row : Row) (values : List Value) (IsText : List ℕ → Type 0) (result : Result (Unit {0}) CommandError)
    → InputsAccepted c.files.held c.input.left (files_of row) (input_of row) values → EndsWith c.out IsText result
    → ((text : List ℕ) → IsText text → Yields c.tells row values text) → RowEnds c row result
writes_from c row values IsText (Ok done) accepted (text, is, took) writes = (text, (values, accepted, writes text is), took)
writes_from c row values IsText (Err (stop.Refused r)) accepted ends writes = absurd ends.0
writes_from c row values IsText (Err stop.ReadFault) accepted ends writes = absurd ends.0
writes_from c row values IsText (Err stop.WriteFault) accepted (text, is, part, rose) writes = (text, (values, accepted, writes text is), part, rose)
writes_from c row values IsText (Err stop.NoMemory) accepted ends writes = ends

-- they are read, and the command writes a text that comes from their values
pub row_writes : {T U : Type 0} {files : Reading} {input : Drawing} {kind : Kind} {values : T → List Value} {value : U → Value} {t : T} {u : U}
    (tells : List Use → Option Counts) (out : Writing) (row : Row) (IsText : List ℕ → Type 0) (result : Result (Unit {0}) CommandError)
    → FilesRead files [] (files_of row) values (Ok t) → InputRead input (values t) kind value (Ok u) → input_of row ≡ Some kind → EndsWith out IsText result
    → ((text : List ℕ) → IsText text → Yields tells row (values t ++ value u ∷ []) text) → RowEnds (call tells files input out) row result
row_writes {files = files} {input = input} {values = values} {value = value} {t = t} {u = u} tells out row IsText result front back reads ends writes =
    let all : List Value = values t ++ value u ∷ [] in
    let P : Option Kind → Type 0 = λ k. InputsAccepted files.held input.left (files_of row) k all in
    writes_from (call tells files input out) row all IsText result (subst P (sym reads) (values t, value u, refl, front.accepted, back.accepted)) ends writes

-- 3. What is drawn for the row that words are in.

no_kind : (kind : Option Kind) → kind ≡ None → IsSome kind → ⊥
no_kind None none some = let clash : false ≡ true = some in cc
no_kind (Some kind) none some = cc

-- nothing has to be read to its end, where the row reads no standard input
pub none_read : (row : Row) (Read : Type 0) (result : Result (Unit {0}) CommandError) → input_of row ≡ None → OnOk result (IsSome (input_of row) → Read)
none_read row Read (Ok done) none = λ some. absurd (no_kind (input_of row) none some)
none_read row Read (Err e) none = tt

-- a command that reads it to its end
pub whole_read : {Read : Type 0} (result : Result (Unit {0}) CommandError) → Read → OnOk result Read
whole_read (Ok done) read = read
whole_read (Err e) read = tt

pub drawn_behind : (held : List ℕ → Option (List ℕ)) (Undrawn : Type 0) (words : List (List ℕ)) (row : Row) → Matches words row → DrawnBehind held (files_of row) Undrawn
    → (other : Row) → Matches words other → DrawnBehind held (files_of other) Undrawn
drawn_behind held Undrawn words row asks drawn other also =
    subst (λ (x : Row). DrawnBehind held (files_of x) Undrawn) (one_row words row other asks also) drawn

not_done : (s : CommandError) → status_of (Err s) ≡ Done → ⊥
not_done (stop.Refused r) same = cc
not_done stop.ReadFault same = cc
not_done stop.WriteFault same = cc
not_done stop.NoMemory same = cc

pub read_whole : (Read : Type 0) (words : List (List ℕ)) (row : Row) (result : Result (Unit {0}) CommandError) → Matches words row → OnOk result (IsSome (input_of row) → Read)
    → status_of result ≡ Done → (other : Row) → Matches words other → IsSome (input_of other) → Read
read_whole Read words row (Ok done) asks read same other also some =
    read (subst (λ (x : Row). IsSome (input_of x)) (sym (one_row words row other asks also)) some)
read_whole Read words row (Err s) asks read same other also some = absurd (not_done s same)
