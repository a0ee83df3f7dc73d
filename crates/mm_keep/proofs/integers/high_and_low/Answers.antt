use Rattle.std.proofs.{Common.{ℕ, ◌+◌, ◌*◌, ◌%◌, ap, ◌∙◌, arith, rules}, lemmas.Int.to_z-of_z}
use Rattle.std.specs.{Prelude.FitsSigned, Int.{w32, cast_unsigned}}
use Rattle.mm_keep.proofs.Moving.{or_halves}
use Rattle.mm_keep.proofs.integers.high_and_low.Goals as goal

pub returns : goal.returns
returns c =
    let fits : FitsSigned w32 c.args.imm = search rules in
    let low = c.from.ensures ∙ c.cast_unsigned.ensures ∙ ap (cast_unsigned w32) (to_z-of_z w32 c.args.imm fits) in
    or_halves c.args.bits c.from.result (omega arith) ∙ ap (λ (n : ℕ). c.args.bits * 4294967296 % 18446744073709551616 + n) low
