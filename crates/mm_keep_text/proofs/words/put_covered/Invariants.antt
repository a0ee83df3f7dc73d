use Rattle.std.specs.List.{filter}
use Rattle.mm_keep_text.proofs.Covering.{Covering, in_range}
use Rattle.mm_keep_text.proofs.words.put_covered.Given as goal

abbrev pub invariant-loop-word : goal.invariant-loop-word
invariant-loop-word l = Covering l.initial.covered.keys (filter (in_range l.first l.after) l.words.keys) l.word-iterator l.covered.keys
