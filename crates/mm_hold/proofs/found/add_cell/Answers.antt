use Rattle.std.proofs.lemmas.List.Elements.{All-push}
use Rattle.mm_graph.specs.{declared.found.Found.Found, Key.IsKey}
use Rattle.mm_hold.proofs.found.add_cell.Goals as goal

pub returns-in_ok-push-clause-keys : goal.returns-in_ok-push-clause-keys
returns-in_ok-push-clause-keys c = rw c.in_ok-push.ensures.items (All-push (λ (f : Found). IsKey f.key) _ _ c.requires c.in-Some.ensures.key)
