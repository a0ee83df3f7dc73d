use Rattle.std.proofs.Common.{ℕ, MatchOption, subst}
use Rattle.mm_why.{specs.Giving.{MeetsAt, AreCarriers}, proofs.Giving.{maker_of, lines_carry, maker_carries}}
use Rattle.mm_why.proofs.work.Workspace.known_carriers.Goals as goal

pub own_first-load-requires-clause-some : goal.own_first-load-requires-clause-some
own_first-load-requires-clause-some c =
    let none = subst (λ v. MatchOption v (MeetsAt c.args.context.now.graph.now c.args.giver c.args.taker → ⊥)
    (λ (pair : ℕ × ℕ). AreCarriers c.args.self.now.lines.items c.args.giver c.args.taker pair.0 pair.1))
    c.in-None.is c.in_ok-store.ensures in
    (maker_of c.args.context.now.graph.now c.args.giver c.args.taker none c.requires.meets).1

pub make_whole-requires-clause-some : goal.make_whole-requires-clause-some
make_whole-requires-clause-some c =
    let none = subst (λ v. MatchOption v (MeetsAt c.args.context.now.graph.now c.args.giver c.args.taker → ⊥)
    (λ (pair : ℕ × ℕ). AreCarriers c.args.self.now.lines.items c.args.giver c.args.taker pair.0 pair.1))
    c.in-None.is c.in_ok-store.ensures in
    (maker_of c.args.context.now.graph.now c.args.giver c.args.taker none c.requires.meets).0

pub returns-in_ok-store-in-None-clause-carriers : goal.returns-in_ok-store-in-None-clause-carriers
returns-in_ok-store-in-None-clause-carriers c =
    lines_carry c.make_whole.new.self.lines.items c.args.giver c.args.taker c.in_ok-store-in-None.store c.own_first-load.result c.carriers_of-in-None.result.store c.carriers_of-in-None.result.load
    (maker_carries c.args.context.now.image.now c.args.context.now.graph.now c.args.self.now c.make_whole.new.self c.args.giver c.args.taker c.in_ok-store-in-None.store c.own_first-load.result
    c.requires.graph c.in_ok-store-in-None.ensures.goes_on c.own_first-load.ensures c.in_ok-store-in-None.ensures.says)
    (rw c.deref-in-None.ensures.value at c.carriers_of-in-None.ensures.store) (rw c.deref-in-None.ensures.value at c.carriers_of-in-None.ensures.load)
