-- What the words of a command say, parameter by parameter.
use Rattle.std.specs.Prelude.{ℕ, suc, Bool, false, List, [], ◌∷◌, map, slice_get, String, Option, None, Some}
use Rattle.std.specs.declared.alloc.Global.{Global}
use Rattle.mm_model.specs.declared.word_use.WordUse.{WordUse, TheVariants.Touch}
use Rattle.mm_cli.specs.declared.table.Command.{Command}
use Rattle.mm_cli.specs.declared.table.Parameter.{Parameter}
use Rattle.mm_cli.specs.declared.table.Parameter.TheVariants.{File, Number, Groups, Segments, Mode, Range, Address, Use}
use Rattle.mm_cli.specs.declared.table.Tail.{Tail, TheVariants.{Nothing, Optional, Repeated}}
use Rattle.mm_cli.specs.declared.words.{Word.{Word as Read}}
use Rattle.mm_cli.specs.Words.{Word, file_word, number_word, groups_word, segments_word, mode_word, range_word}
use Rattle.mm_cli.specs.{Words.{use_word, optional, texts}, Table.{TableRow, Row, Fits, row_for}}
use Rattle.mm_cli.specs.declared.words.Word.TheVariants as read

-- 1. What a word that was read says, if there is one.

abbrev pub name_of : Option Read → List ℕ
name_of (Some (read.File kind name)) = name.now
name_of _ = []

abbrev pub optional_name_of : Option Read → Option (List ℕ)
optional_name_of (Some (read.File kind name)) = Some name.now
optional_name_of _ = None

abbrev pub names_of : Option Read → List (String Global)
names_of (Some (read.Files kind names)) = names.now
names_of _ = []

abbrev pub number_of : Option Read → ℕ
number_of (Some (read.Number n)) = n
number_of _ = 0

abbrev pub groups_of : Option Read → List ℕ
groups_of (Some (read.Groups groups)) = groups.items
groups_of _ = []

abbrev pub optional_groups_of : Option Read → Option (List ℕ)
optional_groups_of (Some (read.Groups groups)) = Some groups.items
optional_groups_of _ = None

abbrev pub segments_of : Option Read → List (ℕ × ℕ)
segments_of (Some (read.Segments segments)) = segments.items
segments_of _ = []

abbrev pub mode_of : Option Read → Bool
mode_of (Some (read.Mode split)) = split
mode_of _ = false

abbrev pub range_of : Option Read → ℕ × ℕ
range_of (Some (read.Range base log)) = (base, log)
range_of _ = (0, 0)

abbrev pub use_of : Option Read → WordUse
use_of (Some (read.Use how)) = how
use_of _ = Touch

-- 2. What all words of a row say.

-- what the word of a parameter says
abbrev pub argument_at : Parameter → Option Read → Word
argument_at (File kind) word = file_word kind (name_of word)
argument_at (Number least most) word = number_word (number_of word)
argument_at Groups word = groups_word (groups_of word)
argument_at Segments word = segments_word (segments_of word)
argument_at Mode word = mode_word (mode_of word)
argument_at Range word = range_word (range_of word).0 (range_of word).1
argument_at Address word = number_word (number_of word)
argument_at Use word = use_word (use_of word)

-- what the last words say
abbrev pub tail_arguments : Tail → Option Read → List Word
tail_arguments Nothing word = []
tail_arguments (Optional (File kind)) word = optional (file_word kind) (optional_name_of word)
tail_arguments (Optional Groups) word = optional groups_word (optional_groups_of word)
tail_arguments (Optional parameter) None = []
tail_arguments (Optional parameter) (Some word) = argument_at parameter (Some word) ∷ []
tail_arguments (Repeated kind most) word = map (file_word kind) (texts (names_of word))

-- what the words of the parameters from `at` on say, and then the last words
abbrev pub arguments_from : List Parameter → Tail → (at : ℕ) → List Read → List Word
arguments_from [] tail at words = tail_arguments tail (slice_get words at)
arguments_from (parameter ∷ parameters) tail at words =
    argument_at parameter (slice_get words at) ∷ arguments_from parameters tail (suc at) words

abbrev pub arguments_by : Option TableRow → List Read → List Word
arguments_by None words = []
arguments_by (Some row) words = arguments_from row.parameters row.tail 0 words

-- what the words of a command say
abbrev pub arguments : Command → List Read → List Word
arguments command words = arguments_by (row_for command) words

-- the row of a command and what its words say
abbrev pub row : Command → List Read → Row
row command words = record { command = command; words = arguments command words }

-- what the words say fits in the row of the command
abbrev pub HasArguments : Command → List Read → Type 0
HasArguments command words = Fits command (arguments command words)
