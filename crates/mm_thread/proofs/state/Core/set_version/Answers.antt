use Rattle.mm_thread.proofs.Sound.{version_whole}
use Rattle.mm_thread.proofs.state.Core.set_version.Goals as goal

pub invariant_of-self : goal.invariant_of-self
invariant_of-self c = rw c.set_version.ensures (version_whole c.self.inside.tables c.args.version (rw (← c.self.view_is) at c.requires.silent) c.self.invariant)
