use Rattle.std.{proofs.Common.{◌++◌, [], ◌∷◌, ap, ◌∙◌}, specs.List.flat_map}
use Rattle.mm_model.specs.{declared.word_use.WordUse.TheVariants.{Touch, Write}, Audit.{segment_line, apart_line}}
use Rattle.mm_text.proofs.Appending.{appends_then}
use Rattle.mm_audit.specs.Crossing.{verdict_of}
use Rattle.mm_confine_text.specs.Told.{group_line, door_line, slot_line}
use Rattle.mm_confine_text.proofs.Texts.{held_doors}
use Rattle.mm_confine_text.proofs.text.put_group.Goals as goal

pub returns : goal.returns
returns g c =
    let (doors, wrote, held) = c.put_doors.ensures in
    let n = c.args.group.now.number in
    let slots = c.deref.result.now in
    let touch = c.touched.result in
    let write = c.written.result in
    let verdict = verdict_of c.apart.result in (
      group_line n ++ flat_map door_line doors ++ flat_map slot_line slots ++ flat_map (segment_line Touch) touch
          ++ flat_map (segment_line Write) write ++ apart_line (n ∷ []) verdict,
      appends_then (appends_then (appends_then (appends_then (appends_then c.put_number.ensures wrote) c.put_slots.ensures) c.put_segments.ensures) c.put_segments-2.ensures) c.put_answer.ensures,
      λ i kept parties are own. record {
        doors = doors;
        touch = touch;
        write = write;
        verdict = verdict;
        doors_are = held_doors i kept n c.args.holdings.now c.args.parties.now doors are parties (held i kept are);
        touch_is = c.touched.ensures i kept are;
        write_is = c.written.ensures i kept are;
        judged = c.apart.ensures i kept are;
        is = ap (λ v. group_line n ++ flat_map door_line doors ++ flat_map slot_line v ++ flat_map (segment_line Touch) touch
            ++ flat_map (segment_line Write) write ++ apart_line (n ∷ []) verdict) (c.deref.ensures.value ∙ own);
      },
    )
