use Rattle.mm_explore.proofs.NotingSets.{finals_end}
use Rattle.mm_explore.proofs.search.Search.note_endless.Goals as goal

pub returns-then-not-self-clause-ends : goal.returns-then-not-self-clause-ends
returns-then-not-self-clause-ends c = finals_end c.args.img.now c.args.self.now c.if-not-self.true c.requires.ended
