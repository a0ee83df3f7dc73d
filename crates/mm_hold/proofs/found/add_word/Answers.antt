use Rattle.std.proofs.lemmas.List.Elements.{All-push}
use Rattle.mm_graph.specs.{declared.seed.Seed.Seed, Key.IsKey}
use Rattle.mm_hold.proofs.found.add_word.Goals as goal

pub returns-in_ok-push-clause-keys : goal.returns-in_ok-push-clause-keys
returns-in_ok-push-clause-keys c = rw c.in_ok-push.ensures.items (All-push (λ (s : Seed). IsKey s.key) _ _ c.requires c.in-Some.ensures.key)
