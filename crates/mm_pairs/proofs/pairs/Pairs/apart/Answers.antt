use Rattle.std.proofs.Common.{◌≡◌, ℕ, subst, ◌∙◌}
use Rattle.std.proofs.lemmas.List.{map-id}
use Rattle.mm_pairs.{specs.{Named.HaveOneName}, proofs.{Inserts.{have_one_name, same_pair, own_pair}, Names.trees_apart}}
use Rattle.mm_pairs.proofs.pairs.Pairs.apart.Goals as goal

pub returns : goal.returns
returns c =
    let keys = c.self.inside.pairs.keys in
    let one = have_one_name same_pair (λ (p : ℕ × ℕ). p) (0, 0) (λ p. p ≡ (0, 0) → ⊥) (λ x y p q e. own_pair x y e) (λ k p e. p e) keys c.self.invariant.0 c.len-count.ensures.unique in
    let pairs = subst (HaveOneName (0, 0)) (map-id keys ∙ c.self.view_is) one in
    record { pairs = pairs; trees = trees_apart c.args.self.now pairs }
