use Rattle.std.proofs.Common.{arith, ◌≤◌, ◌⊎◌, ◌++◌, length, take, drop, ◌-◌, inl, inr, ap, ◌∙◌}
use Rattle.std.proofs.lemmas.Grind.{common_steps}
use Rattle.mm_asm.proofs.{BuiltUses.merged_rest, text_order.merge.Goals.{then-loop-i-test+else-j-ys, else-loop-i-test}}
use Rattle.mm_asm.proofs.text_order.merge.Goals as goal

pub returns-clause-uses : goal.returns-clause-uses
returns-clause-uses c =
    let l = c.loop-i in
    let xs = c.args.xs.now in
    let ys = c.args.ys.now in
    let end : (length xs ≤ l.i) ⊎ (length ys ≤ l.j) =
    elim c.loop-i-test.branch [ then-loop-i-test+else-j-ys w ↦ inr w.if-j-ys.false | else-loop-i-test w ↦ inl w.loop-i-test.false ] in
    c.in_ok-push_all-2.ensures.uses ∙ ap (λ us. us ++ take (length ys - l.j) (drop l.j ys)) c.in_ok-push_all.ensures.uses ∙ merged_rest l.merged.items xs ys l.i l.j end ∙ l.invariant.uses

pub loop-i-preserved : goal.loop-i-preserved
loop-i-preserved c = grind (arith, common_steps)
