use Rattle.std.proofs.Common.{sym, ◌∙◌}
use Rattle.mm_endless.proofs.Ending.{first_at}
use Rattle.mm_endless.proofs.closed.first_at.Goals as goal

pub returns : goal.returns
returns c = c.told.ensures ∙ sym (first_at c.args.marks.now c.args.numbers.now c.args.node c.requires.numbers c.requires.node)
