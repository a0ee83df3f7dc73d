-- Lists of lines that grow, each of which follows from the image and from earlier lines.
use Rattle.std.specs.Prelude.{◌≡◌, ℕ, ◌+◌, ◌<◌, ◌≤◌, List, length}
use Rattle.mm_word.specs.Pointer.{Pointer}
use Rattle.mm_model.specs.Image.{Image}
use Rattle.mm_why.specs.{declared.line.Line.Line, Derivations.{line_at, Says, LineFollows, EachFollows, NoneTwice}}

-- each line follows, and none stands twice
pub record IsTrace (i : Image) (lines : List Line) : Type 0 where
  pub follows : EachFollows i lines
  pub none_twice : NoneTwice lines

-- the second list begins with the first
pub record Extends (old new : List Line) : Type 0 where
  pub len : length old ≤ length new
  pub same : (k : ℕ) → k < length old → line_at new k ≡ line_at old k

-- no line grants the pointer to the group
abbrev pub IsFresh : List Line → ℕ → Pointer → Type 0
IsFresh lines g p = (k : ℕ) → k < length lines → (line_at lines k).group ≡ g → (line_at lines k).pointer ≡ p → ⊥

-- the line was added, as the one at this index
pub record Adds (old : List Line) (line : Line) (new : List Line) (place : ℕ) : Type 0 where
  pub at : place ≡ length old
  pub len : length new ≡ length old + 1
  pub extends : Extends old new
  pub says : Says new (length new) place line.group line.pointer
  pub is : line_at new place ≡ line
  pub keeps : (i : Image) → IsTrace i old → LineFollows i old (length old) line → IsTrace i new
