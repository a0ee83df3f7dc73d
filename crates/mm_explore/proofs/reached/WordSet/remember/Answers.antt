use Rattle.std.proofs.Common.{◌∙◌, List, ℕ, Option, Some, Contains, sym, subst}
use Rattle.std.specs.Prelude.{IfSome}
use Rattle.mm_model.proofs.CoreRows.{each_set}
use Rattle.mm_explore.proofs.reached.WordSet.remember.Goals as goal

pub invariant_of-self : goal.invariant_of-self
invariant_of-self c =
    let keys = c.self.inside.words.keys in
    let here : Contains keys c.args.key = subst (λ (l : List (ℕ × ℕ)). Contains l c.args.key) (sym (c.self.view_is ∙ c.make_places.ensures)) c.requires in
    each_set (λ (place : Option (ℕ × ℕ)). IfSome place (Contains keys)) c.self.inside.recent.items c.args.place (Some c.args.key) c.self.invariant here
