use Rattle.std.{proofs.Common.{◌≡◌, ◌++◌}, specs.List.AllByRecursion}
use Rattle.mm_span.specs.Spans.{IsWord}
use Rattle.mm_span.proofs.builder.spans.Given as goal

-- the words so far and those that are left are all words
abbrev pub invariant-loop-word : goal.invariant-loop-word
invariant-loop-word l = record {
  whole : l.builder ++ l.word-iterator ≡ l.words.keys;
  left : AllByRecursion IsWord l.word-iterator;
}
