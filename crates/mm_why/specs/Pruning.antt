-- The lines that a line needs, and where they stand once all others are left out.
use Rattle.std.specs.Prelude.{◌≡◌, ℕ, ◌+◌, ◌<◌, ◌≤◌, ◌⊎◌, Bool, true, false, List, length, slice_index, slice_index_or}
use Rattle.mm_why.specs.{declared.line.{Line.Line, Rule.Rule}, Derivations.{line_at, Names}}
use Rattle.mm_why.specs.declared.line.Rule.TheVariants as rules

-- each line names earlier lines only
abbrev pub NameEarlier : List Line → Type 0
NameEarlier lines = (k j : ℕ) → k < length lines → Names (line_at lines k).rule j → j < k

abbrev pub IsNeeded : List Bool → ℕ → Type 0
IsNeeded needed j = slice_index_or needed j false ≡ true

-- the lines that the rule names were added to those that are needed
pub record AddsNamed (rule : Rule) (old new : List Bool) : Type 0 where
  pub len : length new ≡ length old
  pub keeps : (j : ℕ) → IsNeeded old j → IsNeeded new j
  pub adds : (j : ℕ) → Names rule j → IsNeeded new j
  pub only : (j : ℕ) → IsNeeded new j → IsNeeded old j ⊎ Names rule j

-- a later needed line names the line
pub record NeededBy (lines : List Line) (needed : List Bool) (j : ℕ) : Type 0 where
  pub by : ℕ
  pub later : j < by
  pub needs : IsNeeded needed by
  pub names : Names (line_at lines by).rule j

-- The last line is needed, each needed line other than the last is named by a later needed one, and of each needed line
-- from an index on all that it names is needed.
pub record Needs (lines : List Line) (last from : ℕ) (needed : List Bool) : Type 0 where
  pub len : length needed ≡ last + 1
  pub whole : IsNeeded needed last
  pub named : (j : ℕ) → IsNeeded needed j → (j ≡ last) ⊎ NeededBy lines needed j
  pub closed : (k j : ℕ) → from ≤ k → IsNeeded needed k → Names (line_at lines k).rule j → IsNeeded needed j

-- the rule with other indices for the lines that it names
abbrev pub moved : (ℕ → ℕ) → Rule → Rule
moved to (rules.Register n r) = rules.Register n r
moved to (rules.Runs n) = rules.Runs n
moved to (rules.Cell w j) = rules.Cell w (to j)
moved to (rules.Below j) = rules.Below (to j)
moved to (rules.Passed w j s l) = rules.Passed w (to j) (to s) (to l)
moved to (rules.Entered j) = rules.Entered (to j)
moved to (rules.Served n j) = rules.Served n (to j)
moved to (rules.Made j) = rules.Made (to j)

abbrev pub moved_line : List ℕ → Line → Line
moved_line places line = record line { rule = moved (λ j. slice_index places j) line.rule }

-- the needed lines before an index stand at these places, in their order, and no others
pub record AreKept (lines : List Line) (needed : List Bool) (top : ℕ) (places : List ℕ) (out : List Line) : Type 0 where
  pub len : length places ≡ length needed
  pub small : (j : ℕ) → j < top → IsNeeded needed j → slice_index places j < length out
  pub at : (j : ℕ) → j < top → IsNeeded needed j → line_at out (slice_index places j) ≡ moved_line places
      (line_at lines j)
  pub order : (j k : ℕ) → j < k → k < top → IsNeeded needed j → IsNeeded needed k
      → slice_index places j < slice_index places k
  pub each : (m : ℕ) → m < length out → (j : ℕ) × (j < top) × IsNeeded needed j × (slice_index places j ≡ m)

-- the needed lines stand at some places, in their order, and no others
pub record HaveKept (lines : List Line) (needed : List Bool) (out : List Line) : Type 0 where
  pub places : List ℕ
  pub kept : AreKept lines needed (length needed) places out
