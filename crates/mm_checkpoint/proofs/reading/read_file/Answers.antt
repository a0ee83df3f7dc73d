use Rattle.std.proofs.Common.{cond, ltb, length, map, ap, ◌∙◌}
use Rattle.mm_format.specs.Formats.{after, Parsed.{Got, Bad}}
use Rattle.mm_checkpoint.specs.{Format.contents_from, Steps.put_out}
use Rattle.mm_checkpoint.proofs.reading.read_file.Goals as goal

pub returns-clause-read : goal.returns-clause-read
returns-clause-read c =
    let bytes = c.args.bytes.now in
    let f = c.in_ok-file.file in
    let said = contents_from f.head f.rows.items (map put_out f.outputs.items) f.pages.items in
    let at = c.read_contents.new.reader.at in (
      at,
      ap (λ o. after o (λ a n. cond (ltb n (length bytes)) (Bad 13 n) (Got a n))) c.in_ok-file.ensures.read.0
          ∙ ap (λ b. cond b (Bad 13 at) (Got said at)) c.in_ok-refuse_if.ensures.right,
    )
