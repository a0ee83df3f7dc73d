use Rattle.std.proofs.Common.{subst}
use Rattle.mm_model.specs.Fits.{IsCore}
use Rattle.mm_thread.proofs.state.Core.known.Goals as goal

pub returns : goal.returns
returns c = subst IsCore c.self.view_is c.self.invariant
