-- The table of commands, and the words that are in its rows.
use Rattle.std.specs.Prelude.{◌≡◌, ◌≢◌, ℕ, ◌==◌, Bool, List, ◌∷◌, map, slice_get, Option, None, Some, IfSome}
use Rattle.std.specs.{List.find, Borrow.Bor}
use denote.Enum.Declared.{tag_of}
use Rattle.mm_cli.specs.contracts.table.Command.{the_type}
use Rattle.mm_cli.specs.declared.table.{TheConstants.TABLE, Command.{Command, TheVariants.Debug}, Kind.Kind}
use Rattle.mm_cli.specs.{declared.table.{Parameter.Parameter, Tail.Tail}, Words.{Word, FitsRow, files_in, spelled}}
use Rattle.mm_cli.specs.declared.table.Kind.TheVariants as kind

-- A row of the table of src/table.rt: the command's name, the command, the parameters after the name, and what comes
-- after these parameters.
pub record TableRow : Type 0 where
  pub name : List ℕ
  pub command : Command
  pub parameters : List Parameter
  pub tail : Tail

-- a row of src/table.rt as a record
abbrev pub table_row : Bor (List ℕ) × Command × Bor (List Parameter) × Tail → TableRow
table_row row = record { name = row.0.now; command = row.1; parameters = row.2.now; tail = row.3 }

abbrev pub table : List TableRow
table = map (λ row. record { name = row.0.now; command = row.1; parameters = row.2.now; tail = row.3 }) TABLE

-- no row has this name
abbrev pub NoneIsNamed : List ℕ → Type 0
NoneIsNamed name = (number : ℕ) (row : TableRow) → slice_get table number ≡ Some row → row.name ≢ name

-- whether two commands are the same: they have the same number in the list of src/table.rt
abbrev pub is_same : Command → Command → Bool
is_same a b = tag_of the_type a == tag_of the_type b

-- the first row of a command
abbrev pub row_for : Command → Option TableRow
row_for command = find (λ (row : TableRow). is_same row.command command) table

-- What is asked for: a command, and what the words after its name say.
pub record Row : Type 0 where
  pub command : Command
  pub words : List Word

-- A row of the table has this command, and the words fit in it.
pub record IsInTable (row : Row) : Type 0 where
  pub number : ℕ
  pub table_row : TableRow
  pub at : slice_get table number ≡ Some table_row
  pub command : table_row.command ≡ row.command
  pub fits : FitsRow table_row.parameters table_row.tail row.words

-- words fit in the row of a command
abbrev pub Fits : Command → List Word → Type 0
Fits command words = IfSome (row_for command) (λ row. FitsRow row.parameters row.tail words)

-- The words ask for a row: they are the name of its command, and after that its words.
pub record Matches (words : List (List ℕ)) (row : Row) : Type 0 where
  pub in_table : IsInTable row
  pub arguments : words ≡ in_table.table_row.name ∷ spelled row.words

-- the words are in no row: they ask for none
abbrev pub InNoRow : List (List ℕ) → Type 0
InNoRow words = (row : Row) → Matches words row → ⊥

abbrev pub files_of : Row → List (List ℕ × Kind)
files_of row = files_in row.words

-- the kind of input as which a command reads standard input after its files, if it does
abbrev pub input_for : Command → Option Kind
input_for Debug = Some kind.Text
input_for _ = None

abbrev pub input_of : Row → Option Kind
input_of row = input_for row.command

-- the words are in no row that reads standard input
abbrev pub LeaveInput : List (List ℕ) → Type 0
LeaveInput words = (row : Row) → Matches words row → input_of row ≡ None
