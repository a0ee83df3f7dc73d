use Rattle.std.proofs.Common.{◌≡◌, ◌+◌, ℕ, List, map, sym, subst, ap}
use Rattle.std.proofs.lemmas.List.{map-id}
use Rattle.mm_pairs.{specs.Named.{IsNameOf, HasGrown}, proofs.Inserts.{all_more, is_named, has_grown, named_still, same_pair, is_same}}
use Rattle.mm_pairs.proofs.pairs.Pairs.find.Goals as goal
use Rattle.mm_pairs.proofs.pairs.Pairs.find.Goals.{else-left-eq0-via-then-left-eq0+else-right-eq0, else-left-eq0-via-else-left-eq0}

pub invariant_of-self-2 : goal.invariant_of-self-2
invariant_of-self-2 c =
    let keys = c.self.inside.pairs.keys in
    let now = c.insert_full.new.self.keys in
    let grown = has_grown same_pair (λ (p : ℕ × ℕ). p) (0, 0) (λ p. p ≡ (0, 0) → ⊥) keys now (c.args.left, c.args.right) c.in_ok-at.ensures.keys in
    let whole : HasGrown keys now = subst (λ (l : List (ℕ × ℕ)). HasGrown l now) (map-id keys) (subst (λ (l : List (ℕ × ℕ)). HasGrown (map (λ (p : ℕ × ℕ). p) keys) l) (map-id now) grown) in (
      all_more same_pair (λ (p : ℕ × ℕ). p) (0, 0) (λ p. p ≡ (0, 0) → ⊥) keys now (c.args.left, c.args.right) c.in_ok-at.ensures.keys c.self.invariant.0
          (λ e. elim c.else-left-eq0.branch [
            | else-left-eq0-via-then-left-eq0+else-right-eq0 w ↦ w.if-right-eq0.false (ap (λ x. x.1) e)
            | else-left-eq0-via-else-left-eq0 w ↦ w.if-left-eq0.false (ap (λ x. x.0) e)
          ]),
      named_still (0, 0) keys now whole c.self.inside.recent.items c.self.invariant.1,
    )

pub returns-clause-name : goal.returns-clause-name
returns-clause-name c =
    let now = c.insert_full.new.self.keys in
    let pair : ℕ × ℕ = (c.args.left, c.args.right) in
    subst (λ (l : List (ℕ × ℕ)). IsNameOf (0, 0) l (c.in_ok-at.at + 1) pair) (map-id now)
    (is_named same_pair (λ (p : ℕ × ℕ). p) (0, 0) (λ p. p ≡ (0, 0) → ⊥) c.self.inside.pairs.keys now pair c.in_ok-at.ensures.keys
    (λ l e. sym (is_same pair l e)) c.in_ok-at.at c.in_ok-at.ensures.stored)
