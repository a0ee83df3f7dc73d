-- Files of one kind that are read one after the other.
use Rattle.std.proofs.Common.{◌≡◌, ℕ, ◌+◌, ◌<◌, List, [], ◌∷◌, ◌++◌, length, map, take, drop, get_or, Result, Ok, Err}
use Rattle.std.proofs.Common.{String, string_bytes, refl, sym, ap, ◌∙◌, subst}
use Rattle.std.proofs.lemmas.List.{take_more, map-append, take-append-drop}
use Rattle.std.specs.{Result.IsErrAnd, declared.alloc.Global.Global}
use Rattle.mm_io.specs.Files.{PieceRead}
use Rattle.mm_load.specs.{declared.status.CommandError.CommandError, Kinds.Value}
use Rattle.mm_load.specs.Files.{Reading, FilesRead, FilesRefused, FilesFailed, AsksFiles, Stops, files_named}
use Rattle.mm_load.proofs.Reading.{GoesOn, both, files_then, stops_first, asks_of_all}
use Rattle.mm_cli.specs.{declared.table.Kind.Kind, Words.{file_word, files_in, texts}}

-- the files that these words name
pub files_in_words : (kind : Kind) (names : List (String Global)) → files_in (map (file_word kind) (texts names)) ≡ files_named kind names
files_in_words kind [] = refl
files_in_words kind (name ∷ names) =
    ap (λ (files : List (List ℕ × Kind)). (string_bytes name, kind) ∷ files) (files_in_words kind names)

-- their kind, and what values such files have
module _ {A : Type 0} (kind : Kind) (value : A → Value) where
  abbrev named : String Global → List ℕ × Kind
  named name = (string_bytes name, kind)

  next_named : (names : List (String Global)) (at : ℕ) (name : String Global) → at < length names → name ≡ get_or names at name
      → files_named kind (take (at + 1) names) ≡ files_named kind (take at names) ++ named name ∷ []
  next_named names at name lt is =
      ap (λ (xs : List (String Global)). files_named kind xs) (take_more names at name lt ∙ ap (λ (n : String Global). take at names ++ n ∷ []) (sym is))
      ∙ map-append named (take at names) (name ∷ [])

  all_named : (names : List (String Global)) (at : ℕ) → files_named kind (take (at + 1) names) ++ files_named kind (drop (at + 1) names) ≡ files_named kind names
  all_named names at =
      sym (map-append named (take (at + 1) names) (drop (at + 1) names)) ∙ ap (λ (xs : List (String Global)). files_named kind xs) (take-append-drop (at + 1) names)

  -- one value more
  pub value_more : {a b : Reading} {asks : List PieceRead → Type 0} {before : List Value} (names : List (String Global)) (at : ℕ) (name : String Global) (items more : List A) (item : A)
      → at < length names → name ≡ get_or names at name → more ≡ items ++ item ∷ []
      → FilesRead {T = Unit {0}} a before (files_named kind (take at names)) (λ t. map value items) (Ok tt)
      → FilesRead b (before ++ map value items) (named name ∷ []) (λ x. value x ∷ []) (Ok item) → GoesOn a b asks
      → FilesRead {T = Unit {0}} (both a b asks) before (files_named kind (take (at + 1) names)) (λ t. map value more) (Ok tt)
  value_more {a = a} {b = b} {asks = asks} {before = before} names at name items more item lt is also front back on =
      let whole = files_then front back on in
      let values : map value items ++ value item ∷ [] ≡ map value more = sym (ap (map value) also ∙ map-append value items (item ∷ [])) in
      let P : List (List ℕ × Kind) → Type 0 = λ files. FilesRead {T = Unit {0}} (both a b asks) before files (λ t. map value items ++ value item ∷ []) (Ok tt) in
      let Q : List Value → Type 0 = λ vs. FilesRead {T = Unit {0}} (both a b asks) before (files_named kind (take (at + 1) names)) (λ t. vs) (Ok tt) in
      subst Q values (subst P (sym (next_named names at name lt is)) (record { accepted = whole.accepted; stopped = tt; asked = whole.asked; whole = whole.whole }))

  -- what was asked for so far is asked for of all
  pub values_asked : {T : Type 0} {a b : Reading} {asks : List PieceRead → Type 0} {before : List Value} (names : List (String Global)) (at : ℕ) (name : String Global) (items : List A)
      (values : T → List Value) (result : Result T CommandError) → at < length names → name ≡ get_or names at name
      → FilesRead {T = Unit {0}} a before (files_named kind (take at names)) (λ t. map value items) (Ok tt)
      → FilesRead b (before ++ map value items) (named name ∷ []) values result → GoesOn a b asks → AsksFiles (both a b asks) before (files_named kind names)
  values_asked {a = a} {b = b} {asks = asks} {before = before} names at name items values result lt is front back on =
      let P : List (List ℕ × Kind) → Type 0 = λ files. AsksFiles (both a b asks) before files in
      subst P (all_named names at) (asks_of_all (files_named kind (drop (at + 1) names)) (subst P (sym (next_named names at name lt is)) (files_then front back on).asked))

  -- the reading of one stops, and none behind it is read
  pub value_stops : {T : Type 0} {a b : Reading} {asks : List PieceRead → Type 0} {before : List Value} (names : List (String Global)) (at : ℕ) (name : String Global) (items : List A)
      (values : T → List Value) (s : CommandError) (result : Result T CommandError) → at < length names → name ≡ get_or names at name
      → FilesRead {T = Unit {0}} a before (files_named kind (take at names)) (λ t. map value items) (Ok tt)
      → FilesRead b (before ++ map value items) (named name ∷ []) (λ x. value x ∷ []) (Err s) → GoesOn a b asks → IsErrAnd result (λ e. e ≡ s)
      → FilesRead (both a b asks) before (files_named kind names) values result
  value_stops names at name items values s (Ok t) lt is front back on same = absurd same
  value_stops {a = a} {b = b} {asks = asks} {before = before} names at name items values s (Err e) lt is front back on same =
      let P : List (List ℕ × Kind) → Type 0 = λ files. Stops (FilesRefused a.held before files) (FilesFailed (both a b asks) before files) s in
      let Q : CommandError → Type 0 = λ x. Stops (FilesRefused a.held before (files_named kind names)) (FilesFailed (both a b asks) before (files_named kind names)) x in
      let first = subst P (sym (next_named names at name lt is)) (files_then front back on).stopped in
      record {
        accepted = tt;
        stopped = subst Q (sym same)
            (subst P (all_named names at) (stops_first (both a b asks) (files_named kind (drop (at + 1) names)) before (files_named kind (take (at + 1) names)) s first));
        asked = values_asked names at name items (λ x. value x ∷ []) (Err s) lt is front back on;
        whole = tt;
      }
