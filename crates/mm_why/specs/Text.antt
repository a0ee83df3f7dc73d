-- The text of a derivation.
use Rattle.std.specs.{Prelude.{◌≡◌, ℕ, ◌+◌, ◌⊎◌, List, [], ◌∷◌, ◌++◌, codes, decimal, Option, Some, None}, Borrow.Bor}
use Rattle.mm_word.specs.declared.word.Word.TheVariants.{Ptr}
use Rattle.mm_model.specs.{Digits.hex, Image.Image, Lines.{newline, word_text}, declared.word_use.WordUse.WordUse}
use Rattle.mm_why.specs.{declared.line.{Line.Line, Rule.Rule}, Derivations.{IsGranted, Derives}}
use Rattle.mm_why.specs.declared.line.Rule.TheVariants as rules

-- the number of the line at an index: lines are counted from 1 on
abbrev pub number_text : ℕ → List ℕ
number_text k = decimal (k + 1)

abbrev pub rule_text : Rule → List ℕ
rule_text (rules.Register n r) = codes "register " ++ decimal n ++ codes " " ++ decimal r
rule_text (rules.Runs n) = codes "ip " ++ decimal n
rule_text (rules.Cell w j) = codes "cell " ++ hex 14 w ++ codes " by " ++ number_text j
rule_text (rules.Below j) = codes "below " ++ number_text j
rule_text (rules.Passed w j s l) =
    codes "passed " ++ hex 14 w ++ codes " from " ++ number_text j ++ codes " store " ++ number_text s ++ codes " load "
    ++ number_text l
rule_text (rules.Entered j) = codes "entered " ++ number_text j
rule_text (rules.Served n j) = codes "served " ++ decimal n ++ codes " from " ++ number_text j
rule_text (rules.Made j) = codes "made " ++ number_text j

abbrev pub line_text : ℕ → Line → List ℕ
line_text k line =
    number_text k ++ codes " group " ++ decimal line.group ++ codes " " ++ word_text (Ptr line.pointer) ++ codes " "
    ++ rule_text line.rule ++ newline

-- the text of lines, the first of which is at an index
unfoldable pub lines_text : ℕ → List Line → List ℕ
lines_text k [] = []
lines_text k (line ∷ lines) = line_text k line ++ lines_text (k + 1) lines

-- the text of an answer: its lines, or that there are none
abbrev pub why_text : Option (Bor (List Line)) → List ℕ
why_text None = codes "no\n"
why_text (Some lines) = lines_text 0 lines.now

-- the group is not granted this use of the word, and the text says so
abbrev pub SaysNo : Image → WordUse → ℕ → ℕ → List ℕ → Type 0
SaysNo i how g w text = (¬ IsGranted i how g w) × (text ≡ codes "no\n")

-- the text spells a right derivation of the group's use of the word
pub record SpellsDerivation (i : Image) (how : WordUse) (g w : ℕ) (text : List ℕ) : Type 0 where
  pub lines : List Line
  pub derives : Derives i how g w lines
  pub is : text ≡ lines_text 0 lines

-- the text says why the group is granted this use of the word, or that it is not
abbrev pub SaysWhy : Image → WordUse → ℕ → ℕ → List ℕ → Type 0
SaysWhy i how g w text = SaysNo i how g w text ⊎ SpellsDerivation i how g w text
