use Rattle.std.{proofs.Common.{◌≡◌, ◌++◌}, specs.List.AllByRecursion}
use Rattle.mm_explore.specs.Words.{IsWordKey, words_in}
use Rattle.mm_explore.proofs.reached.spans.Given as goal

-- the words so far and those that are left are all words of the group
abbrev pub invariant-loop-key : goal.invariant-loop-key
invariant-loop-key l = record {
  whole : l.spans ++ words_in l.group l.key-iterator ≡ words_in l.group l.words;
  left : AllByRecursion IsWordKey l.key-iterator;
}
