-- Derivations: lists of lines, each of which follows from the image and from earlier lines.
use Rattle.std.specs.Prelude.{◌≡◌, ℕ, ◌+◌, ◌-◌, ◌<◌, ◌⊎◌, List, length, slice_index_or, Contains, Some}
use Rattle.mm_word.specs.declared.{perm.Perm.TheVariants.{Xp, Eu, Ep, Key}, word.{Word.TheVariants.Ptr, Cell.Cell}}
use Rattle.mm_word.specs.Pointer.{Pointer, IsWellFormed, IsBelow, enter_result}
use Rattle.mm_model.specs.{Memory.cell_at, Slot.{Slot, register}, Image.Image}
use Rattle.mm_model.specs.Reach.{Grants, CanTouch, CanWrite, LoadsAt, StoresAt, Serves, Entries.All}
use Rattle.mm_model.specs.declared.word_use.WordUse.{WordUse}
use Rattle.mm_why.specs.declared.line.{Line.Line, Rule.Rule}
use Rattle.mm_why.specs.declared.line.Rule.TheVariants as rules
use Rattle.mm_model.specs.declared.word_use.WordUse.TheVariants as uses

-- the line past the end of a list
abbrev pub no_line : Line
no_line = record { group = 0; pointer = record { perm = Key; log = 0; addr = 0 }; rule = rules.Runs 0 }

abbrev pub line_at : List Line → ℕ → Line
line_at lines k = slice_index_or lines k no_line

-- 1. How a line follows from the image and from the first `top` lines.

-- line j is one of the first `top` lines, and says that the group is granted the pointer
pub record Says (lines : List Line) (top j g : ℕ) (p : Pointer) : Type 0 where
  pub earlier : j < top
  pub group : (line_at lines j).group ≡ g
  pub pointer : (line_at lines j).pointer ≡ p

-- slot n of the group has the pointer in register r
pub record InRegister (i : Image) (n r g : ℕ) (p : Pointer) : Type 0 where
  pub slot : Slot
  pub stands : Contains i.slots slot
  pub number : slot.number ≡ n
  pub group : slot.group ≡ g
  pub holds : register slot r ≡ Ptr p

-- slot n of the group runs by the pointer
pub record RunsBy (i : Image) (n g : ℕ) (p : Pointer) : Type 0 where
  pub slot : Slot
  pub stands : Contains i.slots slot
  pub number : slot.number ≡ n
  pub group : slot.group ≡ g
  pub ip : slot.ip ≡ p

-- line j, of the group, loads the word w, where the image's cell holds the pointer
pub record InCell (i : Image) (lines : List Line) (top w j g : ℕ) (p : Pointer) : Type 0 where
  pub by : Pointer
  pub says : Says lines top j g by
  pub loads : LoadsAt by w
  pub cell : Cell
  pub at : cell_at i.memory w ≡ Some cell
  pub holds : cell.word ≡ Ptr p

-- the pointer is below that of line j, of the group
pub record Below (lines : List Line) (top j g : ℕ) (p : Pointer) : Type 0 where
  pub by : Pointer
  pub says : Says lines top j g by
  pub below : IsBelow p by

-- line j grants the pointer to a group; line s, of that group, stores at the word w, and line l, of this one, loads it
pub record Passed (lines : List Line) (top w j s l g : ℕ) (p : Pointer) : Type 0 where
  pub giver : ℕ
  pub gives : Says lines top j giver p
  pub store : Pointer
  pub says_store : Says lines top s giver store
  pub stores : StoresAt store w
  pub load : Pointer
  pub says_load : Says lines top l g load
  pub loads : LoadsAt load w

-- line j, of the group, is an enter pointer, and the pointer is what an entry by it leaves
pub record Entered (lines : List Line) (top j g : ℕ) (p : Pointer) : Type 0 where
  pub by : Pointer
  pub says : Says lines top j g by
  pub enters : (by.perm ≡ Eu) ⊎ (by.perm ≡ Ep)
  pub leaves : enter_result by ≡ Some p

-- line j grants the pointer to a group; slot n and its handler are the one of that group and the other of this one
pub record Served (i : Image) (lines : List Line) (top n j g : ℕ) (p : Pointer) : Type 0 where
  pub giver : ℕ
  pub gives : Says lines top j giver p
  pub serves : Serves i g giver
  pub number : serves.served.number ≡ n

-- line j, of the group, is a pointer of privileged code
pub record Made (lines : List Line) (top j g : ℕ) (p : Pointer) : Type 0 where
  pub by : Pointer
  pub says : Says lines top j g by
  pub privileged : by.perm ≡ Xp
  pub well_formed : IsWellFormed p

-- by the rule the group is granted the pointer
abbrev pub Follows : Image → List Line → ℕ → ℕ → Pointer → Rule → Type 0
Follows i lines top g p (rules.Register n r) = InRegister i n r g p
Follows i lines top g p (rules.Runs n) = RunsBy i n g p
Follows i lines top g p (rules.Cell w j) = InCell i lines top w j g p
Follows i lines top g p (rules.Below j) = Below lines top j g p
Follows i lines top g p (rules.Passed w j s l) = Passed lines top w j s l g p
Follows i lines top g p (rules.Entered j) = Entered lines top j g p
Follows i lines top g p (rules.Served n j) = Served i lines top n j g p
Follows i lines top g p (rules.Made j) = Made lines top j g p

-- the line follows from the image and from the first `top` lines
abbrev pub LineFollows : Image → List Line → ℕ → Line → Type 0
LineFollows i lines top line = Follows i lines top line.group line.pointer line.rule

-- 2. Right derivations.

-- the rule names the line at an index
abbrev pub Names : Rule → ℕ → Type 0
Names (rules.Register n r) k = ⊥
Names (rules.Runs n) k = ⊥
Names (rules.Cell w j) k = j ≡ k
Names (rules.Below j) k = j ≡ k
Names (rules.Passed w j s l) k = (j ≡ k) ⊎ ((s ≡ k) ⊎ (l ≡ k))
Names (rules.Entered j) k = j ≡ k
Names (rules.Served n j) k = j ≡ k
Names (rules.Made j) k = j ≡ k

-- each line follows from the image and from the lines before it
abbrev pub EachFollows : Image → List Line → Type 0
EachFollows i lines = (k : ℕ) → k < length lines → LineFollows i lines k (line_at lines k)

-- no two lines grant the same pointer to the same group
abbrev pub NoneTwice : List Line → Type 0
NoneTwice lines = (j k : ℕ) → j < k → k < length lines → (line_at lines j).group ≡ (line_at lines k).group
    → (line_at lines j).pointer ≡ (line_at lines k).pointer → ⊥

-- a later line names the line at an index
pub record IsNamed (lines : List Line) (j : ℕ) : Type 0 where
  pub by : ℕ
  pub later : j < by
  pub small : by < length lines
  pub names : Names (line_at lines by).rule j

pub record IsDerivation (i : Image) (lines : List Line) : Type 0 where
  pub follows : EachFollows i lines
  pub none_twice : NoneTwice lines
  pub named : (j : ℕ) → j + 1 < length lines → IsNamed lines j

-- the pointer gives this use of the word
abbrev pub GivesUse : WordUse → Pointer → ℕ → Type 0
GivesUse uses.Touch p w = LoadsAt p w
GivesUse uses.Write p w = StoresAt p w

-- the group is granted this use of the word
abbrev pub IsGranted : Image → WordUse → ℕ → ℕ → Type 0
IsGranted i uses.Touch g w = CanTouch i All g w
IsGranted i uses.Write g w = CanWrite i All g w

-- the lines are a right derivation of the group's use of the word: the last one has a pointer that gives it
pub record Derives (i : Image) (how : WordUse) (g w : ℕ) (lines : List Line) : Type 0 where
  pub derivation : IsDerivation i lines
  pub pointer : Pointer
  pub last : Says lines (length lines) (length lines - 1) g pointer
  pub gives : GivesUse how pointer w

-- 3. The law.

-- each of the lines is granted, if each follows
abbrev pub DerivationsGrant : Type 0
DerivationsGrant = (i : Image) (lines : List Line) → EachFollows i lines → (k : ℕ) → k < length lines
    → Grants i All (line_at lines k).group (line_at lines k).pointer
