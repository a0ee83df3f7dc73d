use Rattle.std.proofs.Common.{◌≡◌, ◌+◌, ◌<◌, ◌/◌, ◌^◌, bit_and, ◌∙◌, sym, ap, subst, arith}
use Rattle.mm_model.specs.Slot.{Slot}
use Rattle.mm_config.specs.Turning.{NotesSlots}
use Rattle.mm_config.proofs.OneNote.{IsServedBelow, trees_after_slots, bit_from, same_option, read_small, one_served, none_served, all_served}
use Rattle.mm_config.proofs.configs.Configs.note_served.Goals as goal
use Rattle.mm_config.proofs.configs.Configs.note_served.Goals.{then-eq+then-running-slot-eq0+in_ok-note_slot, else-eq, else-eq-via-then-eq+else-running-slot-eq0, else-eq-via-else-eq}

pub overflow_shr-running : goal.overflow_shr-running
overflow_shr-running c =
    let me = c.args.self.now in
    let l = c.loop-at in
    let inside = c.loop-at-test.true in
    let all = c.len-at-end.ensures in
    subst (λ n. n < 64) (sym (ap (λ (s : Slot). s.number) c.slot.view_is))
    (read_small c.args.handler c.args.running l.at me l.self c.requires l.invariant c.known.ensures c.index-slot.result.now (omega (arith, inside, all)) c.index-slot.ensures)

pub note_slot-requires-clause-trees : goal.note_slot-requires-clause-trees
note_slot-requires-clause-trees c =
    let me = c.args.self.now in
    trees_after_slots (IsServedBelow me.base.items c.args.handler c.args.running c.loop-at.at) me c.loop-at.self c.loop-at.invariant c.requires

pub loop-at-preserved : goal.loop-at-preserved
loop-at-preserved c =
    let me = c.args.self.now in
    let l = c.loop-at in
    let inside = c.loop-at-test.true in
    let all = c.len-at-end.ensures in
    elim c.if-eq.branch [
      | then-eq+then-running-slot-eq0+in_ok-note_slot w ↦
          subst (NotesSlots (IsServedBelow me.base.items c.args.handler c.args.running (l.at + 1)) me) (sym w.self-is)
          (one_served c.args.handler c.args.running l.at me l.self c.requires l.invariant w.note_slot.new.self w.in_ok-note_slot.ensures)
      | else-eq w ↦ elim w.else-eq.branch [
        | else-eq-via-then-eq+else-running-slot-eq0 v ↦
            subst (NotesSlots (IsServedBelow me.base.items c.args.handler c.args.running (l.at + 1)) me) (sym (w.self-is ∙ v.self-is))
            (none_served c.args.handler c.args.running l.at me l.self c.requires l.invariant c.index-slot.result.now (omega (arith, inside, all)) c.index-slot.ensures
            (λ handled rests. rests (bit_from c.args.running c.index-slot.result.now.number (subst (λ (s : Slot). bit_and (c.args.running / 2 ^ s.number) 1 ≡ 0 → ⊥) c.slot.view_is v.if-running-slot-eq0.false))))
        | else-eq-via-else-eq v ↦
            subst (NotesSlots (IsServedBelow me.base.items c.args.handler c.args.running (l.at + 1)) me) (sym (w.self-is ∙ v.self-is))
            (none_served c.args.handler c.args.running l.at me l.self c.requires l.invariant c.index-slot.result.now (omega (arith, inside, all)) c.index-slot.ensures
            (λ handled rests. same_option c.slot.inside.handler c.args.handler (ap (λ (s : Slot). s.handler) c.slot.view_is ∙ handled) v.if-eq.ensures))
      ]
    ]

pub returns : goal.returns
returns c =
    let end = c.loop-at-test.false in
    let all = c.len-at-end.ensures in
    all_served c.args.handler c.args.running c.loop-at.at c.args.self.now c.loop-at.self (omega (arith, end, all)) c.loop-at.invariant
