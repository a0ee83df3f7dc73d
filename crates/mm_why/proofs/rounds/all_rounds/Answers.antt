use Rattle.std.proofs.Common.{sym, subst, ◌++◌, ◌∷◌, []}
use Rattle.mm_why.{specs.Rounds.{AreRounds, FirstRounds}, proofs.Rounding.{step_more, rounds_end}}
use Rattle.mm_why.proofs.rounds.all_rounds.Goals as goal

pub returns-then-not-propagate_shared-clause-rounds : goal.returns-then-not-propagate_shared-clause-rounds
returns-then-not-propagate_shared-clause-rounds c =
    subst (AreRounds c.args.links c.args.meets) (sym c.in_ok-keep.ensures)
    (rounds_end c.args.links c.args.meets c.loop-rounds.now c.handing-edges.result c.propagate_shared.new.marks c.propagate_shared.result c.handing-edges.ensures
    c.propagate_shared.ensures c.loop-rounds.rounds.items c.if-not-propagate_shared.true c.loop-rounds.invariant)

pub loop-rounds-preserved : goal.loop-rounds-preserved
loop-rounds-preserved c =
    subst (λ v. FirstRounds c.args.links c.args.meets (v ++ c.propagate_shared.new.marks ∷ [])) (sym c.in_ok-keep.ensures)
    (step_more c.args.links c.args.meets c.loop-rounds.now c.handing-edges.result c.propagate_shared.new.marks c.propagate_shared.result c.handing-edges.ensures
    c.propagate_shared.ensures c.loop-rounds.rounds.items c.loop-rounds.invariant)
