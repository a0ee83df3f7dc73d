use Rattle.std.proofs.Common.{ℕ, List, ◌∙◌, sym, subst}
use Rattle.mm_pairs.{specs.Named.{IsNameOf}, proofs.Inserts.{each_set}}
use Rattle.mm_pairs.proofs.pairs.Pairs.remember.Goals as goal

pub invariant_of-self : goal.invariant_of-self
invariant_of-self c =
    let keys = c.self.inside.pairs.keys in
    let here : IsNameOf (0, 0) keys c.args.name c.args.pair =
    subst (λ (l : List (ℕ × ℕ)). IsNameOf (0, 0) l c.args.name c.args.pair) (sym (c.self.view_is ∙ c.make_places.ensures)) c.requires in
    (c.self.invariant.0, each_set (λ x. IsNameOf (0, 0) keys x.1 x.0) c.self.inside.recent.items c.args.place (c.args.pair, c.args.name) c.self.invariant.1 here)
