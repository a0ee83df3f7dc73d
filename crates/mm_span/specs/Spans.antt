-- Runs of consecutive words.
use Rattle.std.specs.Prelude.{◌≡◌, ℕ, zero, suc, ◌+◌, ◌*◌, ◌%◌, ◌^◌, ◌<◌, ◌≤◌, ◌==◌, if◌then◌else◌, List, [], ◌∷◌, ◌++◌}
use Rattle.std.specs.Prelude.{Contains, codes, decimal, Option, Some, None, IfSome}
use Rattle.std.specs.List.{AllByRecursion, flat_map}
use Rattle.mm_model.specs.{Digits.hex, Lines.newline}
use Rattle.mm_span.specs.Pairs.{EachPair}

-- a run of consecutive words: its first word and how many there are
pub record Span : Type 0 where
  pub first : ℕ
  pub count : ℕ

-- the word at an index of a run
abbrev pub word_in : Span → ℕ → ℕ
word_in span k = span.first + 8 * k

pub record InSpan (word : ℕ) (span : Span) : Type 0 where
  pub index : ℕ
  pub within : index < span.count
  pub at : word_in span index ≡ word

-- a run ends before another begins, with at least a word between them
abbrev pub IsApart : Span → Span → Type 0
IsApart a b = word_in a a.count < b.first

-- the spans are the longest runs of words for which something holds, ascending
pub record AreSpans (holds : ℕ → Type 0) (spans : List Span) : Type 0 where
  pub some : AllByRecursion (λ span. 0 < span.count) spans
  pub apart : EachPair IsApart spans
  pub only : AllByRecursion (λ span. (k : ℕ) → k < span.count → holds (word_in span k)) spans
  pub each : (word : ℕ) → holds word → (span : Span) × Contains spans span × InSpan word span

-- the runs of ascending words, after a last run that may go on
abbrev pub spans_after : Option Span → List ℕ → List Span
spans_after None [] = []
spans_after (Some s) [] = s ∷ []
spans_after None (w ∷ ws) = spans_after (Some (record { first = w; count = 1 })) ws
spans_after (Some s) (w ∷ ws) =
    if word_in s s.count == w then spans_after (Some (record { first = s.first; count = s.count + 1 })) ws
    else s ∷ spans_after (Some (record { first = w; count = 1 })) ws

-- consecutive words: the first, and how many there are
abbrev pub words_from : ℕ → ℕ → List ℕ
words_from word zero = []
words_from word (suc n) = word ∷ words_from (word + 8) n

-- the words of a run
abbrev pub words_of : Span → List ℕ
words_of span = words_from span.first span.count

-- the words of runs, and of a last one that may go on
abbrev pub given : List Span → Option Span → List ℕ
given spans None = flat_map words_of spans
given spans (Some last) = flat_map words_of spans ++ words_of last

-- runs, and a last one that may go on, are those of their words
pub record IsBuilt (spans : List Span) (last : Option Span) : Type 0 where
  pub room : IfSome last (λ s. word_in s s.count ≤ 2 ^ 54)
  pub runs : (more : List ℕ) → spans ++ spans_after last more ≡ spans_after None (given spans last ++ more)

-- the address of a word
abbrev pub IsWord : ℕ → Type 0
IsWord word = (word % 8 ≡ 0) × (word < 2 ^ 54)

-- the line of a run, after the word for what was done with it
abbrev pub span_line : List ℕ → Span → List ℕ
span_line verb span = verb ++ hex 14 span.first ++ codes " " ++ decimal span.count ++ newline
