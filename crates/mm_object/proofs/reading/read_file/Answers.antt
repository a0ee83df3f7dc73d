use Rattle.std.proofs.Common.{cond, ltb, length, ap, ◌∙◌, arith}
use Rattle.mm_format.specs.Formats.{after, Parsed.{Got, Bad}}
use Rattle.mm_object.proofs.reading.read_file.Goals as goal

pub read_object-requires-clause-bytes : goal.read_object-requires-clause-bytes
read_object-requires-clause-bytes c = λ i. omega (arith, c.type_inv.bytes i)

pub returns : goal.returns
returns c =
    let bytes = c.args.bytes.now in
    let at = c.read_object.new.reader.at in (
      at,
      ap (λ o. after o (λ a n. cond (ltb n (length bytes)) (Bad 9 n) (Got a n))) c.in_ok-object.ensures.read.0
          ∙ ap (λ b. cond b (Bad 9 at) (Got c.in_ok-object.object at)) c.in_ok-refuse_if.ensures.right,
    )
