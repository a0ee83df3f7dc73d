-- Files that are read by the names that words say.
use Rattle.std.proofs.Common.{◌≡◌, ℕ, List, [], ◌∷◌, map, Option, Result, String, sym, ap, ◌∙◌, subst}
use Rattle.std.specs.declared.alloc.Global.{Global}
use Rattle.mm_cli.specs.declared.{table.{Kind.{Kind, TheVariants.{Schedule as schedule_file}}}}
use Rattle.mm_cli.specs.Words.{file_word, files_in, optional, texts}
use Rattle.mm_load.specs.{declared.status.CommandError.CommandError, Kinds.Value}
use Rattle.mm_load.{specs.Files.{Reading, FilesRead, files_named}, proofs.Several.files_in_words}

-- one file
pub named : {T : Type 0} {r : Reading} {before : List Value} {kind : Kind} {values : T → List Value} {result : Result T CommandError}
    {name other : List ℕ} → name ≡ other → FilesRead r before ((name, kind) ∷ []) values result
    → FilesRead r before ((other, kind) ∷ []) values result
named {r = r} {before = before} {kind = kind} {values = values} {result = result} same read =
    subst (λ (n : List ℕ). FilesRead r before ((n, kind) ∷ []) values result) same read

-- a schedule, or none
pub schedule_named : {T : Type 0} {r : Reading} {before : List Value} {values : T → List Value} {result : Result T CommandError}
    {name other : Option (List ℕ)} → name ≡ other
    → FilesRead r before (files_in (optional (file_word schedule_file) name)) values result
    → FilesRead r before (files_in (optional (file_word schedule_file) other)) values result
schedule_named {r = r} {before = before} {values = values} {result = result} same read =
    subst (λ (n : Option (List ℕ)). FilesRead r before (files_in (optional (file_word schedule_file) n)) values result) same read

-- several files of one kind
pub several_named : {T : Type 0} {r : Reading} {before : List Value} {values : T → List Value} {result : Result T CommandError}
    (kind : Kind) {names others : List (String Global)} → names ≡ others
    → FilesRead r before (files_named kind names) values result
    → FilesRead r before (files_in (map (file_word kind) (texts others))) values result
several_named {r = r} {before = before} {values = values} {result = result} kind {names = names} {others = others} same read =
    let files : files_named kind names ≡ files_in (map (file_word kind) (texts others)) =
    ap (λ (ns : List (String Global)). files_named kind ns) same ∙ sym (files_in_words kind others) in
    subst (λ (fs : List (List ℕ × Kind)). FilesRead r before fs values result) files read
