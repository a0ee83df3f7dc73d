use Rattle.std.proofs.Common.{ℕ, slice_get, ap, ◌∙◌, arith}
use Rattle.mm_cli.specs.Arguments.{number_of}
use Rattle.mm_top.{specs.Commands.soaked, proofs.Reported.ends_as}
use Rattle.mm_top.proofs.soak.soak.Goals as goal

pub write_soaked-requires-clause-some : goal.write_soaked-requires-clause-some
write_soaked-requires-clause-some g c = omega (arith, c.number_at-2.ensures, c.requires.1.0)

pub write_soaked-requires-clause-few : goal.write_soaked-requires-clause-few
write_soaked-requires-clause-few g c = omega (arith, c.number_at-2.ensures, c.requires.1.0)

pub write_soaked-requires-clause-most : goal.write_soaked-requires-clause-most
write_soaked-requires-clause-most g c = omega (arith, c.number_at-3.ensures, c.requires.1.1.0)

pub returns : goal.returns
returns g c =
    let number = number_of (slice_get c.args.words.now 0) in
    let size = number_of (slice_get c.args.words.now 1) in
    ends_as _ _ _ _
    (λ text is.
    is ∙ ap (λ (n : ℕ). soaked n c.number_at-2.result c.number_at-3.result) c.number_at.ensures
    ∙ ap (λ (n : ℕ). soaked number n c.number_at-3.result) c.number_at-2.ensures
    ∙ ap (λ (n : ℕ). soaked number size n) c.number_at-3.ensures)
    c.write_soaked.ensures
