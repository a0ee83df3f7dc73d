use Rattle.std.proofs.Common.{ℕ, List, [], set, ap, ◌∙◌, arith}
use Rattle.mm_model.specs.State.{Core}
use Rattle.mm_thread.proofs.Assigned.{nothing_more}
use Rattle.mm_thread.proofs.restore.clear_outputs.Goals as goal

pub loop-group-preserved : goal.loop-group-preserved
loop-group-preserved c =
    let t = c.args.tables.now in
    let g = c.loop-group.group in
    c.set_output.ensures ∙ ap (λ (k : Core). record k { outputs = set k.outputs g [] }) c.loop-group.invariant
    ∙ ap (λ (outputs : List (List ℕ)). record t { outputs = outputs }) (nothing_more t.outputs g (omega arith))
