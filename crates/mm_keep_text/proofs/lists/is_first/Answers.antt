use Rattle.mm_model.proofs.Memories.{aligned}
use Rattle.mm_keep_text.proofs.lists.is_first.Goals as goal

pub returns-then-word-ne0-clause-no : goal.returns-then-word-ne0-clause-no
returns-then-word-ne0-clause-no c = λ e h. c.if-word-ne0.true (aligned c.args.kernel.now.image.memory c.args.word h.cell h.at)
