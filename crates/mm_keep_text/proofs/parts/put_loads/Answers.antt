use Rattle.std.proofs.Common.{◌≡◌, ◌⊎◌, subst}
use Rattle.std.{proofs.lemmas.List.take_all, specs.Prelude.Contains}
use Rattle.mm_keep_text.specs.Parts.{AreAll, Use, SomeIs, IsLoad}
use Rattle.mm_keep_text.proofs.Uses.{outcome_more}
use Rattle.mm_keep_text.proofs.parts.put_loads.Goals as goal

pub loop-outcome-preserved : goal.loop-outcome-preserved
loop-outcome-preserved c =
    outcome_more IsLoad c.args.origin c.args.uses.now.keys c.loop-outcome.uses.keys c.put_load.new.uses.keys c.args.outcomes.now c.loop-outcome.outcome-index
    c.outcome-item.result c.loop-outcome-test.true c.outcome-item.is c.loop-outcome.invariant c.in_ok-put_load.ensures

pub returns : goal.returns
returns c =
    let all = take_all c.loop-outcome.outcome-index c.args.outcomes.now c.loop-outcome-test.false in
    subst (λ os. AreAll (λ (u : Use). Contains c.args.uses.now.keys u ⊎ ((u.0 ≡ c.args.origin) × SomeIs IsLoad os u.1)) c.loop-outcome.uses.keys) all
    c.loop-outcome.invariant
