use Rattle.std.proofs.Common.{subst, sym, ap, ◌∙◌}
use Rattle.mm_machine.specs.Capture.{OutputsBelow}
use Rattle.mm_machine.proofs.Collecting.{output_more, output_not}
use Rattle.mm_machine.proofs.capture.outputs_of.Goals.{then-is_group_of+in_ok-output_copy+in_ok-push, else-is_group_of}
use Rattle.mm_machine.proofs.capture.outputs_of.Goals as goal

pub loop-group-preserved : goal.loop-group-preserved
loop-group-preserved c =
    let core = c.args.core.now in
    let slots = c.args.slots.now in
    let group = c.loop-group.group in
    let so_far = c.loop-group.outputs.items in
    elim c.if-is_group_of.branch [
      | then-is_group_of+in_ok-output_copy+in_ok-push w ↦
          subst (OutputsBelow core slots _) (sym (ap (λ v. v.items) w.outputs-is ∙ w.in_ok-push.ensures.items))
          (output_more core slots group so_far c.loop-group.invariant w.in_ok-output_copy.field-0
          w.in_ok-output_copy.ensures.group w.in_ok-output_copy.ensures.bytes (sym c.is_group_of.ensures
          ∙ w.if-is_group_of.true))
      | else-is_group_of w ↦ subst (OutputsBelow core slots _) (sym (ap (λ v. v.items) w.outputs-is))
          (output_not core slots group so_far c.loop-group.invariant (sym c.is_group_of.ensures
          ∙ w.if-is_group_of.false))
    ]
