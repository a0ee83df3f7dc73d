-- The lines of the cells that groups can touch, as one text.
use Rattle.std.specs.Prelude.{◌≡◌, ◌↔◌, ℕ, Bool, List, [], ◌∷◌, ◌++◌, Option}
use Rattle.mm_word.specs.declared.word.Cell.{Cell}
use Rattle.mm_model.specs.{declared.counts.Counts.Counts, State.State, Image.{Image, start}, Lines.cell_line}
use Rattle.mm_model.specs.{Report.{changes, report}, Schedule.only, Run.run, Reach.Entries.All, Worlds.Touchable}
use Rattle.mm_laws.specs.{Isolated.AgreeApart, Runs.AreLinesOf}

-- the text has the lines of the cells that pass
pub data LinesOf (Passes : ℕ → Type 0) : List (ℕ × Cell) → List ℕ → Type 0 where
  no_cell : LinesOf Passes [] []
  line : {w : ℕ} {c : Cell} {cells : List (ℕ × Cell)} {text : List ℕ} → Passes w → LinesOf Passes cells text
      → LinesOf Passes ((w, c) ∷ cells) (cell_line w c ++ text)
  no_line : {w : ℕ} {c : Cell} {cells : List (ℕ × Cell)} {text : List ℕ} → ¬ Passes w → LinesOf Passes cells text
      → LinesOf Passes ((w, c) ∷ cells) text

-- the text has the lines of the changed cells that the groups can touch
abbrev pub CellLinesOf : Image → (ℕ → Bool) → State → List ℕ → Type 0
CellLinesOf i c s text = LinesOf (Touchable i All c) (changes s.memory i.memory) text

-- at most one text has the lines of the changed cells that the groups can touch
abbrev pub CellLinesAreOne : Type 0
CellLinesAreOne = (i : Image) (c : ℕ → Bool) (s : State) (one other : List ℕ) → CellLinesOf i c s one
    → CellLinesOf i c s other → one ≡ other

-- it is impossible that no text has the lines of the changed cells that the groups can touch
abbrev pub CellLinesAreSome : Type 0
CellLinesAreSome = (i : Image) (c : ℕ → Bool) (s : State) → ¬ (¬ ((text : List ℕ) × CellLinesOf i c s text))

-- the text is the same after two lists with the same items of the groups
abbrev pub CellLinesAreSame : Type 0
CellLinesAreSame =
    (i j : Image) (c : ℕ → Bool) (s t : List ℕ) → AgreeApart i j c → only i s c ≡ only j t c
    → (text : List ℕ) → CellLinesOf i c (run (start i) s) text ↔ CellLinesOf j c (run (start j) t) text

-- the lines of the text are lines of the report, in their order
abbrev pub CellLinesAreWritten : Type 0
CellLinesAreWritten = (i : Image) (c : ℕ → Bool) (s : State) (counts : Option Counts) (text : List ℕ)
    → CellLinesOf i c s text → AreLinesOf text (report s i counts)
