use Rattle.std.proofs.Common.{◌≡◌, ℕ, subst, ◌∙◌}
use Rattle.std.proofs.lemmas.List.{map-id}
use Rattle.mm_pairs.{specs.Named.HaveOneName, proofs.Inserts.{have_one_name, same_pair, own_pair}}
use Rattle.mm_config.proofs.Rising.{some_pairs}
use Rattle.mm_config.proofs.outputs.Outputs.apart.Goals as goal

pub returns : goal.returns
returns c =
    let keys = c.self.inside.pairs.keys in
    subst (HaveOneName (0, 0)) (map-id keys ∙ c.self.view_is)
    (have_one_name same_pair (λ (p : ℕ × ℕ). p) (0, 0) (λ p. p ≡ (0, 0) → ⊥) (λ x y p q e. own_pair x y e) (λ k p e. p e) keys (some_pairs 0 keys c.self.invariant) c.len-count.ensures.unique)
