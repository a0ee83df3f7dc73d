use Rattle.std.proofs.{Common.{◌≡◌, length, sym, subst, arith}, lemmas.List.take_at}
use Rattle.mm_graph.specs.Placed.{HasTargets}
use Rattle.mm_graph.proofs.targets.targets_of.Goals as goal

pub returns-clause-each : goal.returns-clause-each
returns-clause-each c =
    let kept = c.fill_targets.ensures.len in
    let len : length c.fill_targets.new.targets ≡ c.in_ok-targets.targets.len = (let l = c.deref_mut.ensures.len in let ok = c.in_ok-targets.targets.ok.0 in omega arith) in
    subst (HasTargets c.args.keys.now c.args.placed.now) (sym (take_at c.fill_targets.new.targets _ c.in_ok-targets.targets.len len)) c.fill_targets.ensures.each
