use Rattle.std.proofs.{Common.{◌≡◌, [], ◌∙◌, refl, subst}, lemmas.List.get_or_default}
use Rattle.mm_why.{specs.Rounds.{HandsOn, round_at}, proofs.Reasoning.no_reason}
use Rattle.mm_why.proofs.reasons.handoff_for.Goals as goal

pub returns-in-None : goal.returns-in-None
returns-in-None c =
    let e : c.index.result.now ≡ round_at c.args.rounds.now.rounds.items c.args.round =
    c.index.ensures ∙ get_or_default c.args.rounds.now.rounds.items c.args.round c.index.result.now [] c.requires.round in
    subst (λ v. HandsOn c.args.rounds.now.links c.args.rounds.now.meets v c.args.owner c.args.to → ⊥) e
    (no_reason c.args.rounds.now.links c.args.rounds.now.meets c.index.result.now c.args.owner c.args.to _ refl c.in_default.ensures c.in-None.ensures)
