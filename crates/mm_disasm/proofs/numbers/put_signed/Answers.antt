use Rattle.std.{proofs.{Common.{◌∙◌, ap, w32}, lemmas.Int.to_z-of_z}, specs.Fmt.signed_decimal}
use Rattle.mm_text.proofs.Appending.{appends_same}
use Rattle.mm_disasm.proofs.numbers.put_signed.Goals as goal

pub returns : goal.returns
returns g c =
    appends_same c.put_bytes.ensures
    (c.as_bytes.ensures.value ∙ c.format.ensures.text ∙ ap signed_decimal (to_z-of_z w32 c.args.number c.ranges.number))
