use Rattle.mm_mem.proofs.Kept.{contents}
use Rattle.mm_mem.proofs.laws.contents_are_the_pages.Goals as goal

pub returns : goal.returns
returns c = contents
