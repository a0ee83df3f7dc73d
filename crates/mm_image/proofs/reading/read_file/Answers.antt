use Rattle.std.proofs.Common.{cond, ltb, length, ap, ◌∙◌, arith}
use Rattle.mm_format.specs.Formats.{after, Parsed.{Got, Bad}}
use Rattle.mm_image.proofs.reading.read_file.Goals as goal

pub read_image-requires-clause-bytes : goal.read_image-requires-clause-bytes
read_image-requires-clause-bytes c = λ i. omega (arith, c.type_inv.bytes i)

pub returns : goal.returns
returns c =
    let bytes = c.args.bytes.now in
    let at = c.read_image.new.reader.at in (
      at,
      ap (λ o. after o (λ a n. cond (ltb n (length bytes)) (Bad 13 n) (Got a n))) c.in_ok-image.ensures.read.0
          ∙ ap (λ b. cond b (Bad 13 at) (Got c.in_ok-image.image at)) c.in_ok-refuse_if.ensures.right,
    )
