use Rattle.std.proofs.Common.{◌≡◌, ◌%◌, ◌^◌, ◌*◌, ℕ, sym, subst, ◌∙◌, arith}
use Rattle.std.proofs.lemmas.{Fmt.decimal_injective, Nat.one_shl}
use Rattle.mm_cli.proofs.numbers.read_range.Goals as goal

pub returns-then-base-log-ne0 : goal.returns-then-base-log-ne0
returns-then-base-log-ne0 c first width range begins long =
    let base = c.in_ok-base.base in
    let log = c.in_ok-log.log in
    let same : first ≡ base = decimal_injective first base (omega (arith, range.0)) (omega (arith, c.in_ok-base.ensures.some.1)) (sym begins ∙ c.in_ok-base.ensures.some.0) in
    let alike : width ≡ log = decimal_injective width log (omega (arith, range.2)) (omega (arith, c.in_ok-log.ensures.2)) (sym long ∙ c.in_ok-log.ensures.0) in
    let zero : base % 2 ^ log ≡ 0 = rw (← same, ← alike) range.3 in
    let shifted : 1 * 2 ^ log % 2 ^ 64 ≡ 2 ^ log = one_shl log 64 (omega (arith, c.in_ok-log.ensures.2)) in
    c.if-base-log-ne0.true (subst (λ (length : ℕ). base % length ≡ 0) (sym shifted) zero)
