use Rattle.std.proofs.Common.{◌≡◌, ◌++◌, ◌∷◌, [], ℕ, List, sym, subst, arith}
use Rattle.mm_pairs.specs.Found.{IsAbsent}
use Rattle.mm_pairs.specs.Named.{HaveOneName}
use Rattle.mm_config.specs.ListsFound.{AreListsFound}
use Rattle.mm_config.proofs.ListsKept.{one_more}
use Rattle.mm_config.proofs.lists.Lists.add.Goals as goal

pub invariant_of-self-in-Ok : goal.invariant_of-self-in-Ok
invariant_of-self-in-Ok c =
    let lists = c.self.inside.lists in
    let numbers = c.args.numbers.now in
    let absent : IsAbsent lists numbers = subst (λ (l : List (List ℕ)). IsAbsent l numbers) (sym c.self.view_is) c.requires.absent in
    let now : c.push.new.self ≡ lists ++ numbers ∷ [] = c.in_ok-push.ensures.ok in (
      subst (λ (l : List (List ℕ)). AreListsFound l c.note.new.earliest c.note.new.later) (sym now)
          (c.in-Ok.ensures.ok lists c.self.invariant.0 absent (omega (arith, c.len-at.ensures))),
      subst (HaveOneName {A = List ℕ} []) (sym now) (one_more [] lists numbers absent c.requires.some c.self.invariant.1),
    )
