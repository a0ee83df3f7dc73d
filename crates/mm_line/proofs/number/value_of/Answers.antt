use Rattle.std.{proofs.Common.{◌≡◌, ◌<◌, ◌≤◌, ◌+◌, ◌*◌, ◌^◌, ◌∙◌, sym, get_or, arith}, specs.Char.digit_value}
use Rattle.mm_line.proofs.Numbers.{past, whole}
use Rattle.mm_line.proofs.number.value_of.Goals as goal

pub returns-in_err-checked_mul : goal.returns-in_err-checked_mul
returns-in_err-checked_mul c =
    let big : 2 ^ 64 ≤ c.loop-digit.value * c.args.radix + digit_value (get_or c.args.digits.now c.loop-digit.digit-index 0) =
    let no : c.loop-digit.value * c.args.radix < 2 ^ 64 → ⊥ = rw c.from-in-loop-digit.ensures at c.in_err-checked_mul.ensures in omega (arith, no) in
    c.from_residual.ensures ∙ sym (past c.args.radix c.loop-digit.value c.args.digits.now _ c.loop-digit.digit-index c.requires.low c.loop-digit-test.true c.loop-digit.invariant.same big)

pub returns-in_err-value : goal.returns-in_err-value
returns-in_err-value c =
    let big : 2 ^ 64 ≤ c.loop-digit.value * c.args.radix + digit_value (get_or c.args.digits.now c.loop-digit.digit-index 0) =
    let product : c.in_ok-checked_mul.field-0 ≡ c.loop-digit.value * c.args.radix = grind (arith, c.in_ok-checked_mul.ensures, c.from-in-loop-digit.ensures) in
    let digit : c.from-in-loop-digit-2.result ≡ digit_value (get_or c.args.digits.now c.loop-digit.digit-index 0) =
    grind (arith, c.from-in-loop-digit-2.ensures, c.to_digit.ensures.value, c.unwrap-digit.ensures) in
    omega (arith, c.in_err-value.ensures) in
    c.from_residual-in_err-value.ensures ∙ sym (past c.args.radix c.loop-digit.value c.args.digits.now _ c.loop-digit.digit-index c.requires.low c.loop-digit-test.true c.loop-digit.invariant.same big)

pub returns : goal.returns
returns c = whole c.args.radix c.loop-digit.value c.args.digits.now _ c.loop-digit.digit-index c.loop-digit-test.false c.loop-digit.invariant.fits c.loop-digit.invariant.same
