use Rattle.std.proofs.Common.{take}
use Rattle.mm_keep_text.specs.Parts.{AreAll, IsIn}
use Rattle.mm_keep_text.proofs.words.covered_spans.Given as goal

abbrev pub invariant-loop-part : goal.invariant-loop-part
invariant-loop-part l = AreAll (IsIn l.words.keys (take l.part-index l.parts)) l.covered.keys
