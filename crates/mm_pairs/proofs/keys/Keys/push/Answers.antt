use Rattle.std.proofs.Common.{ℕ, List, sym, subst, arith}
use Rattle.mm_pairs.specs.Found.{AreKeysFound, IsAbsent}
use Rattle.mm_pairs.proofs.keys.Keys.push.Goals as goal

pub invariant_of-self-in-Ok : goal.invariant_of-self-in-Ok
invariant_of-self-in-Ok c =
    let absent : IsAbsent c.self.inside.pairs.items c.args.pair = subst (λ (l : List (ℕ × ℕ)). IsAbsent l c.args.pair) (sym c.self.view_is) c.requires.absent in
    subst (λ (l : List (ℕ × ℕ)). AreKeysFound l c.note.new.earliest c.note.new.later) (sym c.in_ok-push.ensures.items)
    (c.in-Ok.ensures.ok c.self.inside.pairs.items c.self.invariant absent (omega (arith, c.len-at.ensures)))
