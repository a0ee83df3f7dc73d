-- The promises for a whole run: what it touches is granted, and groups that stand apart see what they see alone.
use Rattle.std.specs.{Prelude.{◌≡◌, ◌⊎◌, ℕ, Bool, List, [], ◌∷◌, ◌++◌, Contains, Option, IfSome}, List.AllByRecursion}
use Rattle.mm_word.specs.declared.word.Cell.{Cell}
use Rattle.mm_model.specs.{declared.counts.Counts.Counts, Lines.{newline, cell_line}, Image.{Image, start}}
use Rattle.mm_model.specs.{Groups.HasSlot, Spelling.IsImage, Turn.Turned, Run.{turn_of, run}, Schedule.only}
use Rattle.mm_model.specs.{Report.{changes, report}, Trace.{touches, group_in, entries}}
use Rattle.mm_model.specs.Reach.{Entries, Entries.{These, All}}
use Rattle.mm_model.specs.Worlds.{Touchable, Apart, SameView, alone, sections_of}
use Rattle.mm_laws.specs.Granted.{TouchGranted, EntryGranted}

-- 1. Reach.

-- Each access of a turn is in the segment of a pointer that is granted to the slot's group, with the rights of the
-- access's kind. A done entry leaves the slot at the execute form of its enter pointer, with its address, and that
-- pointer was granted before.
pub record TurnReaches (i : Image) (e : Entries) (t : Turned) : Type 0 where
  pub touched : AllByRecursion (TouchGranted i e (group_in t)) (touches t.step)
  pub entered : IfSome t.step.entered (EntryGranted i e t)

-- every cycle of a run reaches what is granted, under the entries that were done before that cycle
abbrev pub Reaches : Image → List ℕ → Type 0
Reaches i items =
    (before behind : List ℕ) (n : ℕ) → items ≡ before ++ n ∷ behind
    → TurnReaches i (These (entries (start i) before)) (turn_of (run (start i) before) n)

-- 2. Lines.

-- the text is made of whole lines: it is empty or ends with a newline
abbrev pub EndsALine : List ℕ → Type 0
EndsALine text = (text ≡ []) ⊎ ((rest : List ℕ) × (text ≡ rest ++ newline))

-- The lines of one text are lines of another, in their order: the other's lines with some of them left out.
pub data AreLinesOf : List ℕ → List ℕ → Type 0 where
  no_line : AreLinesOf [] []
  kept : {text lines whole : List ℕ} → EndsALine text → AreLinesOf lines whole
      → AreLinesOf (text ++ lines) (text ++ whole)
  left_out : {text lines whole : List ℕ} → EndsALine text → AreLinesOf lines whole → AreLinesOf lines (text ++ whole)

-- The line, with its newline, is one of the text's: it begins at the text's beginning or after a newline.
pub record IsLineOf (line text : List ℕ) : Type 0 where
  pub before : List ℕ
  pub behind : List ℕ
  pub stands : text ≡ before ++ line ++ behind
  pub begins : EndsALine before

-- 3. Isolation.

-- The groups see of a run what they see of a run without the others, with their own items; their sections of the
-- report, and the line of each changed cell that they can touch, are lines of the written text.
pub record Isolates (i : Image) (items : List ℕ) (written : List ℕ) (c : ℕ → Bool) : Type 0 where
  pub view : SameView i items (alone i c) (only i items c) c
  pub sections : AreLinesOf (sections_of c (run (start i) items).core) written
  pub cells : (w : ℕ) (cell : Cell) → Touchable i All c w
      → Contains (changes (run (start i) items).memory i.memory) (w, cell) → IsLineOf (cell_line w cell) written

-- 4. The laws.

abbrev pub RunsReach : Type 0
RunsReach = (i : Image) (items : List ℕ) → IsImage i → Reaches i items

-- runs isolate groups that have a slot and stand apart, whatever the memory counted
abbrev pub RunsIsolate : Type 0
RunsIsolate =
    (i : Image) (items : List ℕ) (counts : Option Counts) (c : ℕ → Bool) → IsImage i → HasSlot i c → Apart i All c
    → Isolates i items (report (run (start i) items) i counts) c
