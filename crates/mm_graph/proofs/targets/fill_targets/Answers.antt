use Rattle.std.proofs.{Common.{◌∙◌, arith}, lemmas.List.Elements.Contains-get_or}
use Rattle.mm_graph.proofs.Places.{filled_write, filled_skip, filled_end, nowhere}
use Rattle.mm_graph.proofs.targets.fill_targets.Goals.{then-index-targets, else-index-targets}
use Rattle.mm_graph.proofs.targets.fill_targets.Goals as goal

pub near-at-requires-clause-there : goal.near-at-requires-clause-there
near-at-requires-clause-there c = c.requires.there _ (Contains-get_or c.args.placed.now c.loop-k.k nowhere c.loop-k-test.true)

pub loop-k-preserved : goal.loop-k-preserved
loop-k-preserved c =
    let small = c.loop-k-test.true in
    elim c.if-index-targets.branch [
      | then-index-targets w ↦ (
        rw w.targets-is (filled_write c.args.keys.now c.args.placed.now c.loop-k.targets c.loop-k.k c.loop-k.invariant.0
            c.near-at.result small c.near-at.ensures.small c.near-at.ensures.at w.if-index-targets.true),
        c.if-index-targets.auto.targets ∙ c.loop-k.invariant.1,
      )
      | else-index-targets w ↦ (
        rw w.targets-is (filled_skip c.args.keys.now c.args.placed.now c.loop-k.targets c.loop-k.k c.loop-k.invariant.0 w.if-index-targets.false),
        c.if-index-targets.auto.targets ∙ c.loop-k.invariant.1,
      )
    ]

pub returns-clause-each : goal.returns-clause-each
returns-clause-each c = filled_end c.args.keys.now c.args.placed.now c.loop-k.targets c.loop-k.k c.loop-k.invariant.0 (let le = c.loop-k.auto.k-end in let ge = c.loop-k-test.false in omega arith)
