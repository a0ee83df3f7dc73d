use Rattle.std.proofs.Common.{◌≡◌, ◌+◌, ℕ, List, length, sym, ap, subst, arith}
use Rattle.std.proofs.lemmas.List.{map-id}
use Rattle.mm_pairs.{specs.Named.{IsNameOf}, proofs.Inserts.{is_named, same_pair, is_same}}
use Rattle.mm_config.{proofs.Rising.{rise_more, rise_at}}
use Rattle.mm_config.proofs.outputs.Outputs.longer.Goals as goal

pub invariant_of-self-2 : goal.invariant_of-self-2
invariant_of-self-2 c =
    let keys = c.self.inside.pairs.keys in
    let low = c.requires in
    let view = ap length c.self.view_is in
    rise_more keys c.insert_full.new.self.keys (c.args.shorter, c.from.result + 1) c.in_ok-at.ensures.keys c.self.invariant (omega (arith, low, view)) (omega arith)

pub returns-clause-name : goal.returns-clause-name
returns-clause-name c =
    let now = c.insert_full.new.self.keys in
    let pair : ℕ × ℕ = (c.args.shorter, c.from.result + 1) in
    subst (λ b. IsNameOf (0, 0) now (c.in_ok-at.at + 1) (c.args.shorter, b + 1)) c.from.ensures (subst (λ (l : List (ℕ × ℕ)). IsNameOf (0, 0) l (c.in_ok-at.at + 1) pair) (map-id now)
    (is_named same_pair (λ (p : ℕ × ℕ). p) (0, 0) (λ p. p ≡ (0, 0) → ⊥) c.self.inside.pairs.keys now pair c.in_ok-at.ensures.keys
    (λ l e. sym (is_same pair l e)) c.in_ok-at.at c.in_ok-at.ensures.stored))

pub returns-clause-rises : goal.returns-clause-rises
returns-clause-rises c =
    let keys = c.self.inside.pairs.keys in
    let now = c.insert_full.new.self.keys in
    let pair : ℕ × ℕ = (c.args.shorter, c.from.result + 1) in
    let low = c.requires in
    let view = ap length c.self.view_is in
    let rise = rise_more keys now pair c.in_ok-at.ensures.keys c.self.invariant (omega (arith, low, view)) (omega arith) in
    let stored = c.in_ok-at.ensures.stored in
    let at = rise_at now c.in_ok-at.at stored.0 rise stored.1 in
    let same = ap (λ (p : ℕ × ℕ). p.0) (is_same pair stored.0 stored.2) in
    omega (arith, at, same)
