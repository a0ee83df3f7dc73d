use Rattle.std.{proofs.{Common.{◌≡◌, ◌∙◌, ◌++◌, ◌∷◌, [], take, sym, ap}, lemmas.List.take_more}, specs.List.filter}
use Rattle.mm_model.{specs.{Slot.Slot, Groups.among}, proofs.Filters.{filter_last_in, filter_last_out}}
use Rattle.mm_audit.proofs.kept_parts.slots_of.Goals.{then-is_inside+in_ok-push, else-is_inside}
use Rattle.mm_audit.proofs.kept_parts.slots_of.Goals as goal

pub loop-slot-preserved : goal.loop-slot-preserved
loop-slot-preserved c =
    let test = λ (s : Slot). among c.args.groups.now s.group in
    let s : Slot = c.slot-item.result in
    let before = take c.loop-slot.slot-index c.args.slots.now in
    let more = ap (filter test) (take_more c.args.slots.now c.loop-slot.slot-index s c.loop-slot-test.true ∙ ap (λ (v : Slot). before ++ v ∷ []) (sym c.slot-item.is)) in
    let member : c.is_inside.result ≡ test s = c.is_inside.ensures ∙ ap test c.slot.view_is in
    elim c.if-is_inside.branch [
      | then-is_inside+in_ok-push w ↦ rw w.kept-is
          (w.in_ok-push.ensures.items ∙ ap (λ l. l ++ w.copy.result ∷ []) c.loop-slot.invariant
          ∙ ap (λ (v : Slot). filter test before ++ v ∷ []) w.copy.ensures
          ∙ sym (filter_last_in test before s (sym member ∙ w.if-is_inside.true)) ∙ sym more)
      | else-is_inside w ↦ rw w.kept-is (c.loop-slot.invariant ∙ sym (filter_last_out test before s (sym member ∙ w.if-is_inside.false)) ∙ sym more)
    ]
