use Rattle.std.proofs.Common.{◌≡◌, ◌∙◌, ◌+◌, ap, decimal, arith}
use Rattle.mm_text.proofs.Appending.{appends_same}
use Rattle.mm_why.proofs.Texts.{last_number}
use Rattle.mm_why.proofs.text.put_number.Goals as goal

pub returns-in-None : goal.returns-in-None
returns-in-None g c =
    let last : 18446744073709551616 ≡ c.args.k + 1 = omega (arith, c.in-None.ensures, c.ranges.k.fits) in
    appends_same c.put_piece-in-None.ensures (last_number ∙ ap decimal last)
