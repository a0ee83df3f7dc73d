use Rattle.std.{proofs.Common.{subst, ◌↔◌}, specs.List.Contains}
use Rattle.mm_graph.proofs.keys.keys_of.Goals as goal

pub returns-clause-same : goal.returns-clause-same
returns-clause-same c x = subst (λ v. Contains c.put_in_order.new.keys.items x ↔ Contains v x) c.in_ok-keys.ensures (c.put_in_order.ensures.same x)
