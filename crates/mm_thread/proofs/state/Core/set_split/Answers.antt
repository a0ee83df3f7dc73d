use Rattle.mm_thread.proofs.Sound.{split_whole}
use Rattle.mm_thread.proofs.state.Core.set_split.Goals as goal

pub invariant_of-self : goal.invariant_of-self
invariant_of-self c = rw c.set_split.ensures (split_whole c.self.inside.tables c.args.on (rw (← c.self.view_is) at c.requires) c.self.invariant)
