use Rattle.std.proofs.Common.{refl, sym, ap, ◌∙◌}
use Rattle.mm_thread.{specs.{StepAccesses.accesses_shown, declared.watch.LastStep.LastStep}, proofs.StepAccesses.{turn_ends, turn_exact}}
use Rattle.mm_thread.proofs.state.turn.Goals as goal

pub returns-clause-step : goal.returns-clause-step
returns-clause-step g c = ap (λ (last : LastStep). last.step) c.turn_watched.ensures.watch

pub returns-clause-idle : goal.returns-clause-idle
returns-clause-idle g c = (turn_ends _ _ _ _ _ c.turn_watched.ensures.whole refl (returns-clause-step g c)).idle

pub returns-clause-delivered : goal.returns-clause-delivered
returns-clause-delivered g c = (turn_ends _ _ _ _ _ c.turn_watched.ensures.whole refl (returns-clause-step g c)).delivered

pub returns-clause-blocked : goal.returns-clause-blocked
returns-clause-blocked g c = (turn_ends _ _ _ _ _ c.turn_watched.ensures.whole refl (returns-clause-step g c)).blocked

pub returns-clause-faulted : goal.returns-clause-faulted
returns-clause-faulted g c = (turn_ends _ _ _ _ _ c.turn_watched.ensures.whole refl (returns-clause-step g c)).faulted

pub returns-clause-did : goal.returns-clause-did
returns-clause-did g c = (turn_ends _ _ _ _ _ c.turn_watched.ensures.whole refl (returns-clause-step g c)).did

pub returns-clause-exactly : goal.returns-clause-exactly
returns-clause-exactly g c =
    (turn_exact c.args.core.now (g.M.Memory.meaning c.args.mem.now) c.args.item).exact ∙ ap accesses_shown (sym (returns-clause-step g c))
