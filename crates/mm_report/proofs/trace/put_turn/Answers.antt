use Rattle.std.proofs.Common.{◌≡◌, append_assoc, refl}
use Rattle.mm_model.specs.Trace.{turn_line}
use Rattle.mm_text.proofs.Appending.{appends_same}
use Rattle.mm_report.specs.Outcomes.{outcome_text}
use Rattle.mm_report.proofs.trace.put_turn.Goals as goal

pub returns : goal.returns
returns g c =
    let step = c.args.step.now in
    let line : c.as_bytes.result.now ≡ turn_line c.args.turn step (outcome_text step.tick) =
    rw (
      c.as_bytes.ensures,
      c.put_text.ensures,
      c.put_decimal.ensures,
      c.put_byte-3.ensures,
      c.put_number.ensures.text,
      c.put_byte-2.ensures,
      c.write_outcome.ensures.text,
      c.write_touch-2.ensures.text,
      c.write_touch.ensures.text,
      c.write_entry.ensures.text,
      c.put_byte.ensures,
      c.new-line.ensures,
    )
    (simp append_assoc refl) in
    appends_same c.put_bytes.ensures line
