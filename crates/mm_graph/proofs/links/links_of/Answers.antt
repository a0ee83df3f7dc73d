use Rattle.std.proofs.Common.{arith, refl}
use Rattle.mm_graph.proofs.Marking.{no_mark}
use Rattle.mm_graph.proofs.links.links_of.Goals as goal

pub loop-k-init : goal.loop-k-init
loop-k-init c = record { len = refl; only = λ h g x. absurd (no_mark 64 h g x); each = λ h g n s lh lg small m x. absurd (omega arith) }
