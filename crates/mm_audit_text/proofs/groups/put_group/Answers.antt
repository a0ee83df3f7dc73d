use Rattle.std.{proofs.Common.{◌++◌, refl}, specs.List.flat_map}
use Rattle.mm_model.specs.{declared.word_use.WordUse.TheVariants.{Touch, Write}, Reach.Entries.All}
use Rattle.mm_model.specs.Audit.{kind_line, segment_line}
use Rattle.mm_text.proofs.Appending.{appends_then}
use Rattle.mm_audit_text.proofs.groups.put_group.Goals as goal

pub returns : goal.returns
returns g c =
    let touch = c.touched.result in
    let write = c.written.result in (
      kind_line c.args.group c.privileged.result ++ flat_map (segment_line Touch) touch ++ flat_map (segment_line Write) write,
      appends_then (appends_then c.put_kind.ensures c.put_segments.ensures) c.put_segments-2.ensures,
      λ i surveys. record {
        privileged = c.privileged.result;
        touch = touch;
        write = write;
        privileged_is = c.privileged.ensures i All surveys;
        touch_is = c.touched.ensures.maximal i All surveys;
        write_is = c.written.ensures.maximal i All surveys;
        is = refl;
      },
    )
