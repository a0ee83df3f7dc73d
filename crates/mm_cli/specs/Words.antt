-- What words say, how it is written, and where it fits.
use Rattle.std.specs.Prelude.{◌≡◌, ℕ, ◌≤◌, Bool, true, false, List, [], ◌∷◌, ◌++◌, map, length}
use Rattle.std.specs.Prelude.{String, string_bytes, codes, decimal, Option, None, Some, IsSomeAnd, ⊤}
use Rattle.std.specs.declared.alloc.Global.{Global}
use Rattle.mm_model.specs.{declared.word_use.WordUse.WordUse, Audit.{groups_text, use_text}}
use Rattle.mm_cli.specs.{Ranges.{IsRange, IsWordAddress}, GroupList.AreGroups, SegmentList.{AreSegments, segments_text}}
use Rattle.mm_cli.specs.declared.table.Kind.{Kind}
use Rattle.mm_cli.specs.declared.table.Parameter.{Parameter}
use Rattle.mm_cli.specs.declared.table.Parameter.TheVariants.{File, Number, Groups, Segments, Mode, Range, Address, Use}
use Rattle.mm_cli.specs.declared.table.Tail.{Tail, TheVariants.{Nothing, Optional, Repeated}}
use Rattle.mm_cli.specs.declared.words.{Word.{Word as Read}}
use Rattle.mm_cli.specs.declared.words.Word.TheVariants as read

-- 1. Words, and how they are written.

-- What a word says.
pub data Word : Type 0 where
  -- the name of a file of a kind
  file_word : Kind → (name : List ℕ) → Word
  number_word : ℕ → Word
  groups_word : List ℕ → Word
  -- of each segment its base and the logarithm of its length
  segments_word : List (ℕ × ℕ) → Word
  -- a mode: whether loads are split
  mode_word : (split : Bool) → Word
  -- the base of a range of addresses and the logarithm of its length
  range_word : (base log : ℕ) → Word
  use_word : WordUse → Word

abbrev pub mode_text : Bool → List ℕ
mode_text false = codes "plain"
mode_text true = codes "split"

-- the texts of a word: two for a range, else one
abbrev pub text_list : Word → List (List ℕ)
text_list (file_word kind name) = name ∷ []
text_list (number_word n) = decimal n ∷ []
text_list (groups_word groups) = groups_text groups ∷ []
text_list (segments_word segments) = segments_text segments ∷ []
text_list (mode_word split) = mode_text split ∷ []
text_list (range_word base log) = decimal base ∷ decimal log ∷ []
text_list (use_word how) = use_text how ∷ []

-- the texts of words, one after the other
abbrev pub spelled : List Word → List (List ℕ)
spelled [] = []
spelled (word ∷ words) = text_list word ++ spelled words

-- the word for a value, if there is a value
abbrev pub optional : {A : Type 0} → (A → Word) → Option A → List Word
optional word None = []
optional word (Some a) = word a ∷ []

-- the files that words name
abbrev pub files_in : List Word → List (List ℕ × Kind)
files_in [] = []
files_in (file_word kind name ∷ words) = (name, kind) ∷ files_in words
files_in (number_word n ∷ words) = files_in words
files_in (groups_word groups ∷ words) = files_in words
files_in (segments_word segments ∷ words) = files_in words
files_in (mode_word split ∷ words) = files_in words
files_in (range_word base log ∷ words) = files_in words
files_in (use_word how ∷ words) = files_in words

-- 2. Where words fit.

-- the word fits in the parameter
abbrev pub FitsParameter : Parameter → Word → Type 0
FitsParameter (File kind) (file_word other name) = other ≡ kind
FitsParameter (Number least most) (number_word n) = (least ≤ n) × (n ≤ most)
FitsParameter Groups (groups_word groups) = AreGroups groups
FitsParameter Segments (segments_word segments) = AreSegments segments
FitsParameter Mode (mode_word split) = ⊤
FitsParameter Range (range_word base log) = IsRange base log
FitsParameter Address (number_word n) = IsWordAddress n
FitsParameter Use (use_word how) = ⊤
FitsParameter _ _ = ⊥

-- no word is left
abbrev pub AreNone : {A : Type 0} → List A → Type 0
AreNone [] = ⊤
AreNone (word ∷ words) = ⊥

-- at most one word is left, and it fits
abbrev pub AreAtMostOne : {A : Type 0} → (Fits : A → Type 0) → List A → Type 0
AreAtMostOne Fits [] = ⊤
AreAtMostOne Fits (word ∷ []) = Fits word
AreAtMostOne Fits _ = ⊥

-- a word fits in each parameter, one after the other, and then the others fit
abbrev pub FitInTurn : {A : Type 0} → (Fits : Parameter → A → Type 0) → (OthersFit : List A → Type 0) → List Parameter
    → List A → Type 0
FitInTurn Fits OthersFit [] words = OthersFit words
FitInTurn Fits OthersFit (parameter ∷ parameters) (word ∷ words) =
    Fits parameter word × FitInTurn Fits OthersFit parameters words
FitInTurn Fits OthersFit (parameter ∷ parameters) [] = ⊥

-- the words fit in what comes after the parameters of a row
abbrev pub FitsTail : Tail → List Word → Type 0
FitsTail Nothing words = AreNone words
FitsTail (Optional parameter) words = AreAtMostOne (FitsParameter parameter) words
FitsTail (Repeated kind most) words =
    (names : List (List ℕ)) × (words ≡ map (file_word kind) names) × (1 ≤ length names) × (length names ≤ most)

-- the words fit in the parameters, and then in what comes after them
abbrev pub FitsRow : List Parameter → Tail → List Word → Type 0
FitsRow parameters tail words = FitInTurn FitsParameter (FitsTail tail) parameters words

-- 3. The words of a command line.

abbrev pub texts : List (String Global) → List (List ℕ)
texts words = map string_bytes words

-- what a word that was read says; nothing if it names several files
abbrev pub word_of : Read → Option Word
word_of (read.File kind name) = Some (file_word kind name.now)
word_of (read.Files kind names) = None
word_of (read.Number n) = Some (number_word n)
word_of (read.Groups groups) = Some (groups_word groups.items)
word_of (read.Segments segments) = Some (segments_word segments.items)
word_of (read.Mode split) = Some (mode_word split)
word_of (read.Range base log) = Some (range_word base log)
word_of (read.Use how) = Some (use_word how)

-- what a word that was read says: one word for each file if it names several
abbrev pub words_of : Read → List Word
words_of (read.Files kind names) = map (file_word kind) (texts names.now)
words_of word = optional (λ w. w) (word_of word)

abbrev pub spoken : List Read → List Word
spoken [] = []
spoken (word ∷ words) = words_of word ++ spoken words

-- the most words that are read for what comes after the parameters of a row
abbrev pub room : Tail → ℕ
room Nothing = 0
room (Optional parameter) = 1
room (Repeated kind most) = 1

-- 4. Words as they are read, parameter by parameter.

-- the word that was read says one word, which fits in the parameter
abbrev pub IsOfParameter : Parameter → Read → Type 0
IsOfParameter parameter word = IsSomeAnd (word_of word) (FitsParameter parameter)

-- at most one word was read for what comes after the parameters of a row: several files are one word
abbrev pub AreOfTail : Tail → List Read → Type 0
AreOfTail Nothing words = AreNone words
AreOfTail (Optional parameter) words = AreAtMostOne (IsOfParameter parameter) words
AreOfTail (Repeated kind most) (read.Files other names ∷ []) = (other ≡ kind) × (1 ≤ length names.now)
    × (length names.now ≤ most)
AreOfTail (Repeated kind most) _ = ⊥

-- one word was read for each parameter, and then at most one for what comes after them
abbrev pub AreOfRow : List Parameter → Tail → List Read → Type 0
AreOfRow parameters tail words = FitInTurn IsOfParameter (AreOfTail tail) parameters words
