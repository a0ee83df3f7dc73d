use Rattle.mm_cache.proofs.MapPages.{pages_are_over}
use Rattle.mm_cache.proofs.laws.pages_are_over.Goals as goal

pub returns : goal.returns
returns c = pages_are_over
