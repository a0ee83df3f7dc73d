use Rattle.std.proofs.Common.{ℕ, List, slice_get, subst, arith}
use Rattle.mm_format.specs.Images.{Spells}
use Rattle.mm_gen.specs.Generated.{generated}
use Rattle.mm_cli.specs.Arguments.{number_of}
use Rattle.mm_top.proofs.Reported.{ends_as}
use Rattle.mm_top.proofs.generate.generate.Goals as goal

pub write_generated-requires-clause-some : goal.write_generated-requires-clause-some
write_generated-requires-clause-some g c = omega (arith, c.number_at-2.ensures, c.requires.1.0)

pub write_generated-requires-clause-few : goal.write_generated-requires-clause-few
write_generated-requires-clause-few g c = omega (arith, c.number_at-2.ensures, c.requires.1.0)

pub returns : goal.returns
returns g c =
    let IsText : List ℕ → ℕ → ℕ → Type 0 = λ text number size. Spells text (generated number size) in
    ends_as _ _ _ _
    (λ text is.
    subst (λ (size : ℕ). IsText text (number_of (slice_get c.args.words.now 0)) size) c.number_at-2.ensures
    (subst (λ (number : ℕ). IsText text number c.number_at-2.result) c.number_at.ensures is))
    c.write_generated.ensures
