use Rattle.mm_word.proofs.Below.{Covers-short}
use Rattle.mm_word.proofs.laws.short_segments_cover_nothing.Goals as goal

pub returns : goal.returns
returns c = Covers-short
