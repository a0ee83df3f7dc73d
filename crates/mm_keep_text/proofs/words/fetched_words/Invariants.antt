use Rattle.std.{proofs.Common.take, specs.List.AllByRecursion}
use Rattle.mm_span.specs.Spans.{IsWord}
use Rattle.mm_keep_text.specs.Parts.{AreAll, SomeFetches}
use Rattle.mm_keep_text.proofs.words.fetched_words.Given as goal

abbrev pub invariant-loop-k : goal.invariant-loop-k
invariant-loop-k l = record {
  each : AreAll (SomeFetches (take l.k l.tables.threads)) l.words.keys;
  words : AllByRecursion IsWord l.words.keys;
}
