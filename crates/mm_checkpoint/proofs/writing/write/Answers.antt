use Rattle.std.{proofs.Common.{refl, List, length, subst, sym, ap, arith}, specs.List.AllByRecursion}
use Rattle.mm_model.{specs.{Slot.Slot, Fits.WaitsForSome}, proofs.CoreRows.slot_limit-few}
use Rattle.mm_checkpoint.proofs.{Groups.few_outputs, CheckpointBytes.{queued, frames_few}, Owns.all_handled}
use Rattle.mm_checkpoint.proofs.Spelled.{checkpoint_spelled}
use Rattle.mm_checkpoint.proofs.writing.write.Goals as goal

pub length_of-requires-clause-few : goal.length_of-requires-clause-few
length_of-requires-clause-few c =
    let few = few_outputs c.args.img.now c.args.s.now c.slots.ensures.image c.requires.slots c.requires.rules in
    let same = ap length c.outputs.ensures.outputs in
    omega arith

pub overflow_add-capacity-2 : goal.overflow_add-capacity-2
overflow_add-capacity-2 c =
    let outputs = few_outputs c.args.img.now c.args.s.now c.slots.ensures.image c.requires.slots c.requires.rules in
    let same_outputs = ap length c.outputs.ensures.outputs in
    let total = c.length_of.ensures.bound in
    let slots = c.slots.ensures.image.few_slots in
    let same_slots = ap length c.slots.ensures.slots in
    let limit = slot_limit-few c.args.img.now.version in
    omega arith

pub overflow_add-capacity-3 : goal.overflow_add-capacity-3
overflow_add-capacity-3 c =
    let outputs = few_outputs c.args.img.now c.args.s.now c.slots.ensures.image c.requires.slots c.requires.rules in
    let same_outputs = ap length c.outputs.ensures.outputs in
    let total = c.length_of.ensures.bound in
    let slots = c.slots.ensures.image.few_slots in
    let same_slots = ap length c.slots.ensures.slots in
    let limit = slot_limit-few c.args.img.now.version in
    let pages = c.requires.pages in
    let same_pages = ap length c.pages.ensures.pages in
    let frames = frames_few c.args.img.now.version in
    let mapped = c.slots.ensures.image.few_frames in
    omega arith

pub put_slots-requires-clause-few : goal.put_slots-requires-clause-few
put_slots-requires-clause-few c =
    let few = queued c.args.img.now c.args.s.now c.args.last c.slots.ensures.image c.requires in
    let same = ap length c.events.ensures.events in
    omega arith

pub put_slots-requires-clause-handled : goal.put_slots-requires-clause-handled
put_slots-requires-clause-handled c = subst (λ (xs : List Slot). AllByRecursion WaitsForSome xs) (sym c.slots-2.ensures.slots) (all_handled c.args.s.now c.requires.rules c.requires.typed)

pub returns-clause-written : goal.returns-clause-written
returns-clause-written c =
    rw (
      checkpoint_spelled c.args.img.now c.args.s.now c.args.last c.slots.ensures.image c.requires,
      c.in_ok-put_pages.ensures,
      c.pages-2.ensures.pages,
      c.in_ok-put_outputs.ensures,
      c.outputs-2.ensures.outputs,
      c.in_ok-put_slots.ensures,
      c.events.ensures.events,
      c.slots-2.ensures.slots,
      c.in_ok-put_header.ensures,
      c.in_ok-out.ensures.items,
    ) refl

pub returns-clause-saves : goal.returns-clause-saves
returns-clause-saves c = record { checkpoint = c.requires; spelled = returns-clause-written c }
