use Rattle.std.specs.List.{Contains}
use Rattle.mm_graph.proofs.Summaries.{exact}
use Rattle.mm_graph.proofs.laws.summaries_decide.Goals as goal

pub returns : goal.returns
returns c i e privileged known sound closed = exact i e privileged (λ g p. Contains (known g) p) sound closed
