use Rattle.std.proofs.{Common.{◌≡◌, sym, ◌∙◌, arith}, lemmas.Fmt.decimal_injective}
use Rattle.mm_cli.proofs.numbers.read_number.Goals as goal

pub returns-then-number-least : goal.returns-then-number-least
returns-then-number-least c n least most argument =
    let number = c.in_ok-number.number in
    let same : n ≡ number = decimal_injective n number (omega arith) (omega (arith, c.in_ok-number.ensures.some.1)) (sym argument ∙ c.in_ok-number.ensures.some.0) in
    omega (arith, same, c.if-number-least.true)
