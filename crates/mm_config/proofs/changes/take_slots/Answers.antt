use Rattle.std.proofs.Common.{◌≡◌, ◌<◌, ◌≤◌, ℕ, List, [], length, slice_set, slice_index_or, sym, ap, ◌∙◌}
use Rattle.std.proofs.lemmas.List.{Sums.fold_more, take_all, length-set, get_or_default}
use Rattle.mm_model.{specs.Slot.Slot, proofs.CoreRows.each_get}
use Rattle.mm_thread.specs.SlotIndices.{no_slot}
use Rattle.mm_pairs.specs.Named.{named}
use Rattle.mm_config.specs.{Forms.slot_from, Reads.slots_read}
use Rattle.mm_config.proofs.changes.take_slots.Goals as goal

pub loop-at-preserved : goal.loop-at-preserved
loop-at-preserved c =
    let lists = c.args.lists.now in
    let base = c.args.base.now in
    let changes = c.args.changes.now in
    let l = c.loop-at in
    let i = l.at-index in
    let e : ℕ × ℕ = slice_index_or changes i (0, 0) in
    let inside = (each_get (λ (x : ℕ × ℕ). (x.0 < length base) × (x.1 ≤ length lists)) changes i (0, 0) c.requires.kept c.loop-at-test.true).0 in
    let first : c.index-base-at.result ≡ slice_index_or base e.0 no_slot = c.index-base-at.is ∙ get_or_default base e.0 c.index-base-at.result no_slot inside in
    let read = c.read_slot.ensures ∙ ap (λ b. slot_from b (named [] lists e.1)) first in
    let next = fold_more (λ (now : List Slot) (x : ℕ × ℕ). slice_set now x.0 (slot_from (slice_index_or base x.0 no_slot) (named [] lists x.1))) c.args.slots.now changes i (0, 0) c.loop-at-test.true in
    record { slots = (λ j. slice_set (l.invariant.slots j) e.0 (read j)) ∙ sym next; many = length-set l.slots e.0 c.read_slot.new.slot ∙ l.invariant.many }

pub returns : goal.returns
returns c = c.loop-at.invariant.slots ∙ ap (λ l. slots_read c.args.lists.now c.args.base.now l c.args.slots.now) (take_all c.loop-at.at-index c.args.changes.now c.loop-at-test.false)
