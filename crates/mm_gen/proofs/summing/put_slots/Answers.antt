use Rattle.std.proofs.{Common.{◌<◌, ◌∙◌, length, ap, sym, arith}, lemmas.{List.take_all, Option.get_or_from_slice_get}}
use Rattle.std.specs.List.{flat_map}
use Rattle.mm_model.specs.Fits.{slots_of}
use Rattle.mm_text.proofs.Appending.{appends_item, appends_same}
use Rattle.mm_gen.{specs.Summary.slot_summary, proofs.SlotTexts.slot_texts}
use Rattle.mm_gen.proofs.summing.put_slots.Goals as goal

pub loop-i-preserved : goal.loop-i-preserved
loop-i-preserved g c =
    let slot = c.nth_slot.result.now in
    let inside : c.loop-i.i < length (slots_of c.args.m.now.core) = omega (arith, c.slot_count-i-end.ensures, c.loop-i-test.true) in
    appends_item (slot_summary c.args.m.now.core) (slots_of c.args.m.now.core) c.loop-i.i slot inside
    (sym (get_or_from_slice_get (slots_of c.args.m.now.core) c.loop-i.i slot slot c.nth_slot.ensures)) c.loop-i.invariant c.put_slot.ensures

pub returns : goal.returns
returns g c =
    appends_same c.loop-i.invariant
    (ap (flat_map (slot_summary c.args.m.now.core)) (take_all c.loop-i.i (slots_of c.args.m.now.core) (omega (arith, c.slot_count-i-end.ensures, c.loop-i-test.false)))
    ∙ slot_texts c.args.m.now.core)
