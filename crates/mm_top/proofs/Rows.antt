-- The answer to a row, by how its files are read and how the command ends with their values.
use Rattle.std.proofs.Common.{◌≡◌, inl, inr, ℕ, List, [], ◌++◌, Option, None, Some, Result, Ok, Err, refl, sym, subst}
use Rattle.std.specs.Result.{IsErrAnd}
use Rattle.mm_word.specs.Adding.{adds_none}
use Rattle.mm_io.specs.Files.{PieceRead}
use Rattle.mm_load.specs.{declared.status.{Refusal.Refusal, CommandError.CommandError}, Kinds.Value}
use Rattle.mm_load.specs.Files.{Reading, reading, FilesAccepted, FilesRefused, FilesFailed, FilesRead, AsksFiles}
use Rattle.mm_load.{specs.Files.{ReadsWhole, Stops}, proofs.Reading.{stops_first, asks_of_all}}
use Rattle.mm_cli.specs.{declared.table.Kind.Kind, Words.{files_in, groups_word, optional}, Table.{Row, files_of}}
use Rattle.mm_top.specs.{Commands.Declines, Answers.{CommandEnds, Ends, EndsWith, Writing}}
use Rattle.mm_load.specs.declared.status.CommandError.TheVariants as stop

-- the reading of its files stops
stopped : (files : Reading) (out : Writing) (Text : Row → List Value → List ℕ → Type 0) (row : Row) (s : CommandError)
    → Stops (FilesRefused files.held [] (files_of row)) (FilesFailed files [] (files_of row)) s
    → AsksFiles files [] (files_of row) → out.taken ≡ out.taken_before → CommandEnds files out Text row (Err s)
stopped files out Text row (stop.Refused r) says asked same = record { ends = (inl says, same); asked = asked; whole = tt }
stopped files out Text row stop.ReadFault says asked same = record { ends = (says, same); asked = asked; whole = tt }
stopped files out Text row stop.WriteFault says asked same = absurd says
stopped files out Text row stop.NoMemory says asked same = record { ends = same; asked = asked; whole = tt }

-- the reading of all of some files stops if that of the first of them does
pub reading_stops : {T U : Type 0} {files : Reading} {before : List Value} {xs all : List (List ℕ × Kind)}
    {values : T → List Value} {others : U → List Value} {s : CommandError} (ys : List (List ℕ × Kind)) (result : Result U CommandError)
    → FilesRead files before xs values (Err s) → all ≡ xs ++ ys → IsErrAnd result (λ e. e ≡ s) → FilesRead files before all others result
reading_stops ys (Ok u) read first is = absurd is
reading_stops {files = files} {before = before} {xs = xs} {all = all} {s = s} ys (Err e) read first is =
    let P : CommandError → Type 0 = λ x. Stops (FilesRefused files.held before all) (FilesFailed files before all) x in
    let Q : List (List ℕ × Kind) → Type 0 = λ fs. Stops (FilesRefused files.held before fs) (FilesFailed files before fs) s in
    let R : List (List ℕ × Kind) → Type 0 = λ fs. AsksFiles files before fs in
    record {
      accepted = tt;
      stopped = subst P (sym is) (subst Q (sym first) (stops_first files ys before xs s read.stopped));
      asked = subst R (sym first) (asks_of_all ys read.asked);
      whole = tt;
    }

-- or ends with values of another form
pub reading_ends : {T U : Type 0} {files : Reading} {before : List Value} {xs all : List (List ℕ × Kind)} {values : T → List Value} {t : T} (others : U → List Value) (u : U)
    → FilesRead files before xs values (Ok t) → all ≡ xs → values t ≡ others u → FilesRead files before all others (Ok u)
reading_ends {files = files} {before = before} {xs = xs} {values = values} {t = t} others u read is same =
    let P : List Value → Type 0 = λ vs. FilesAccepted files.held before xs vs in
    let Q : List (List ℕ × Kind) → Type 0 = λ fs. FilesAccepted files.held before fs (others u) in
    record {
      accepted = subst Q (sym is) (subst P same read.accepted);
      stopped = tt;
      asked = subst (λ (fs : List (List ℕ × Kind)). AsksFiles files before fs) (sym is) read.asked;
      whole = subst (λ (fs : List (List ℕ × Kind)). ReadsWhole files fs) (sym is) read.whole;
    }

pub row_stops : {T : Type 0} {files : Reading} {out : Writing} {Text : Row → List Value → List ℕ → Type 0} {row : Row}
    {xs : List (List ℕ × Kind)} {values : T → List Value} {s : CommandError} (ys : List (List ℕ × Kind))
    (result : Result (Unit {0}) CommandError)
    → FilesRead files [] xs values (Err s) → files_of row ≡ xs ++ ys → out.taken ≡ out.taken_before → IsErrAnd result (λ e. e ≡ s) → CommandEnds files out Text row result
row_stops ys (Ok t) read first same is = absurd is
row_stops {files = files} {out = out} {Text = Text} {row = row} ys (Err e) read first same is =
    let all = reading_stops {others = λ (u : Unit {0}). []} ys (Err e) read first is in
    stopped files out Text row e all.stopped all.asked same

-- they are read, and the command ends with their values
ends_read : (files : Reading) (out : Writing) (Text : Row → List Value → List ℕ → Type 0) (row : Row)
    (values : List Value) (Refuses : Refusal → Type 0) (IsText : List ℕ → Type 0) (result : Result (Unit {0}) CommandError)
    → FilesAccepted files.held [] (files_of row) values → AsksFiles files [] (files_of row) → ReadsWhole files (files_of row) → Ends out Refuses ⊥ IsText result
    → ((r : Refusal) → Refuses r → Declines row values r) → ((text : List ℕ) → IsText text → Text row values text) → CommandEnds files out Text row result
ends_read files out Text row values Refuses IsText (Ok done) accepted asked whole (text, is, took) refuses writes =
    record { ends = (text, (values, accepted, writes text is), took); asked = asked; whole = whole }
ends_read files out Text row values Refuses IsText (Err (stop.Refused r)) accepted asked whole (is, same) refuses writes
    = record { ends = (inr (values, accepted, refuses r is), same); asked = asked; whole = tt }
ends_read files out Text row values Refuses IsText (Err stop.ReadFault) accepted asked whole ends refuses writes = absurd ends.0
ends_read files out Text row values Refuses IsText (Err stop.WriteFault) accepted asked whole (text, is, part, rose) refuses writes =
    record { ends = (text, (values, accepted, writes text is), part, rose); asked = asked; whole = tt }
ends_read files out Text row values Refuses IsText (Err stop.NoMemory) accepted asked whole ends refuses writes = record { ends = ends; asked = asked; whole = tt }

pub row_ends : {T : Type 0} {files : Reading} {out : Writing} {Text : Row → List Value → List ℕ → Type 0} {row : Row}
    {xs : List (List ℕ × Kind)} {values : T → List Value} {t : T} (Refuses : Refusal → Type 0)
    (IsText : List ℕ → Type 0)
    {result : Result (Unit {0}) CommandError} → FilesRead files [] xs values (Ok t) → files_of row ≡ xs → Ends out Refuses ⊥ IsText result
    → ((r : Refusal) → Refuses r → Declines row (values t) r) → ((text : List ℕ) → IsText text → Text row (values t) text) → CommandEnds files out Text row result
row_ends {files = files} {out = out} {Text = Text} {row = row} {values = values} {t = t} Refuses IsText {result = result} read all ends refuses writes =
    let P : List (List ℕ × Kind) → Type 0 = λ fs. FilesAccepted files.held [] fs (values t) in
    let R : List (List ℕ × Kind) → Type 0 = λ fs. AsksFiles files [] fs in
    ends_read files out Text row (values t) Refuses IsText result (subst P (sym all) read.accepted) (subst R (sym all) read.asked)
    (subst (λ (fs : List (List ℕ × Kind)). ReadsWhole files fs) (sym all) read.whole) ends refuses writes

-- a row that reads nothing
pub row_alone : {F : Type 0} (held : F → List ℕ → Option (List ℕ)) (faults : F → List ℕ → ℕ) (asked : F → List PieceRead → Type 0) (files : F) {out : Writing}
    (Text : Row → List Value → List ℕ → Type 0) (row : Row) (IsText : List ℕ → Type 0) {result : Result (Unit {0}) CommandError} → files_of row ≡ [] → EndsWith out IsText result
    → ((text : List ℕ) → IsText text → Text row [] text) → CommandEnds (reading held faults asked files files) out Text row result
row_alone held faults asked files {out = out} Text row IsText {result = result} none ends writes =
    let r = reading held faults asked files files in
    let nothing : AsksFiles r [] [] = record { reads = []; asked = adds_none files; in_order = refl } in
    let whole : ReadsWhole r [] = record { reads = []; asked = adds_none files; through = refl } in
    ends_read r out Text row [] (λ r. ⊥) IsText result (subst (λ (fs : List (List ℕ × Kind)). FilesAccepted r.held [] fs []) (sym none) tt)
    (subst (λ (fs : List (List ℕ × Kind)). AsksFiles r [] fs) (sym none) nothing) (subst (λ (fs : List (List ℕ × Kind)). ReadsWhole r fs) (sym none) whole)
    ends (λ r no. absurd no) writes

-- groups name no file
pub groups_files : (groups : Option (List ℕ)) → files_in (optional groups_word groups) ≡ []
groups_files None = refl
groups_files (Some groups) = refl
