use Rattle.std.proofs.{Common.{◌≡◌, ◌%◌, ℕ, sym, ◌∙◌, subst, arith}, lemmas.Fmt.decimal_injective}
use Rattle.mm_cli.proofs.numbers.read_address.Goals as goal

pub returns-then-address-ne0 : goal.returns-then-address-ne0
returns-then-address-ne0 c n is argument =
    let address = c.in_ok-address.address in
    let same : n ≡ address = decimal_injective n address (omega (arith, is.1)) (omega (arith, c.in_ok-address.ensures.some.1)) (sym argument ∙ c.in_ok-address.ensures.some.0) in
    c.if-address-ne0.true (subst (λ (m : ℕ). m % 8 ≡ 0) same is.0)
