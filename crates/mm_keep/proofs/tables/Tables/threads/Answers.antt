use Rattle.std.proofs.Common.{ap, subst}
use Rattle.mm_kernel.specs.Uses.{AreDistinct}
use Rattle.mm_keep.{specs.Claims.Tables, proofs.Keyed.threads_distinct}
use Rattle.mm_keep.proofs.tables.Tables.threads.Goals as goal

pub returns-clause-distinct : goal.returns-clause-distinct
returns-clause-distinct c =
    subst AreDistinct (ap (λ (t : Tables). t.threads) c.self.view_is) (threads_distinct c.self.inside.threads.keys c.len.ensures.unique c.self.invariant)
