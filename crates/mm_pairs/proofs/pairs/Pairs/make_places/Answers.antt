use Rattle.std.proofs.Common.{◌-◌, ℕ, sym, subst}
use Rattle.std.specs.{List.{AllByRecursion}, Vec.{vec_len}}
use Rattle.mm_pairs.{specs.Named.{IsNameOf}, proofs.Inserts.{each_filled, none_named}}
use Rattle.mm_pairs.proofs.pairs.Pairs.make_places.Goals as goal

pub invariant_of-self : goal.invariant_of-self
invariant_of-self c =
    let keys = c.self.inside.pairs.keys in
    let Is : (ℕ × ℕ) × ℕ → Type 0 = λ x. IsNameOf (0, 0) keys x.1 x.0 in (
      c.self.invariant.0,
      subst (AllByRecursion Is) (sym c.in_ok-resize.ensures.items)
          (each_filled Is 4096 (4096 - vec_len c.self.inside.recent) c.self.inside.recent.items ((0, 0), 0) c.self.invariant.1 (none_named (0, 0) keys)),
    )
