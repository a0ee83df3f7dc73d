use Rattle.std.proofs.Common.{take}
use Rattle.mm_keep_text.specs.Parts.{AreAll, InPages}
use Rattle.mm_keep_text.proofs.words.kept_words.Given as goal

abbrev pub invariant-loop-page : goal.invariant-loop-page
invariant-loop-page l = AreAll (InPages l.kernel.image l.kernel.kept (take l.page-index l.pages)) l.words.keys
