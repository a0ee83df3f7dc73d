use Rattle.mm_line.proofs.Longest.{longest_next}
use Rattle.mm_line.proofs.laws.tokens_are_the_longest.Goals as goal

pub returns : goal.returns
returns c = longest_next
