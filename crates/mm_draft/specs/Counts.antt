-- The counts that a draft keeps of its segments, and what may be added to it.
use Rattle.std.specs.Prelude.{◌≡◌, ℕ, ◌+◌, ◌≤◌, List, map, None, Result, Ok, Err}
use denote.Ref.{Bor}
use Rattle.mm_line.specs.declared.{fault.Problem.Problem, statement.Statement.Statement}
use Rattle.mm_draft.specs.declared.location.Location.{Location}
use Rattle.mm_draft.specs.{Drafts.{Segment, Entry, Draft, place_of, words_of, pointers_of}, Faults.one_if_pointer}
use Rattle.mm_model.specs.Limits.{word_limit, reloc_limit}
use Rattle.mm_line.specs.declared.statement.Statement.TheVariants as statement

-- the entries of a map from names to places
abbrev pub entries_of : List (Bor (List ℕ) × Location) → List Entry
entries_of es = map (λ e. record { name = e.0.now; location = e.1 }) es

-- the counts of words and pointers in the segments, within the limits
pub record Counts (segments : List Segment) (words pointers : ℕ) : Type 0 where
  pub words_are : words ≡ words_of segments
  pub pointers_are : pointers ≡ pointers_of segments
  pub words_fit : words ≤ word_limit
  pub pointers_fit : pointers ≤ reloc_limit

-- a draft has room within the limits for this count of further words, and for this count of pointers among them
pub record HasRoom (d : Draft) (words pointers : ℕ) : Type 0 where
  pub words_fit : words_of d.segments + words ≤ word_limit
  pub pointers_fit : pointers_of d.segments + pointers ≤ reloc_limit

-- a statement may be added: a segment has a permitted size and a new name, and words are within the limits
abbrev pub MayAdd : Draft → Statement → Type 0
MayAdd d (statement.Begin mark log) = (log ≤ 20) × (place_of d mark.name ≡ None)
MayAdd d (statement.Fill words) = HasRoom d words 0
MayAdd d (statement.Word full what) = HasRoom d 1 (one_if_pointer what)
MayAdd d _ = Unit {0}

abbrev pub MayAddReading : Draft → Result Statement Problem → Type 0
MayAddReading d (Ok s) = MayAdd d s
MayAddReading d (Err problem) = Unit {0}
