use Rattle.std.proofs.Common.{◌≤◌, ◌^◌, sym, ◌∙◌, arith}
use Rattle.std.proofs.Math.Pow.{pow_mono}
use Rattle.mm_keep_text.proofs.Covering.{in_bounds, in_long}
use Rattle.mm_keep_text.proofs.words.bounds.Goals as goal

pub returns-then-log-lt54-clause-inside : goal.returns-then-log-lt54-clause-inside
returns-then-log-lt54-clause-inside c =
    in_bounds c.args.part.0 c.args.part.1 c.saturating_add.result (omega arith)
    (λ w low. let p : 2 ^ c.args.part.1 ≤ 2 ^ 54 = pow_mono {j = 54} (let yes = c.if-log-lt54.true in omega (arith, yes)) in (λ h. omega (arith, p, h, low), λ h. omega (arith, p, h, low)))

pub returns-then-lies_in-clause-inside : goal.returns-then-lies_in-clause-inside
returns-then-lies_in-clause-inside c = λ w low.
    let same = in_long w c.args.part.0 c.args.part.1 (let no = c.if-log-lt54.false in omega (arith, no)) low in
    (λ h. (omega arith, low), λ h. same ∙ sym c.lies_in.ensures ∙ c.if-lies_in.true)

pub returns-else-lies_in-clause-inside : goal.returns-else-lies_in-clause-inside
returns-else-lies_in-clause-inside c = λ w low.
    let same = in_long w c.args.part.0 c.args.part.1 (let no = c.if-log-lt54.false in omega (arith, no)) low in
    (λ h. let wrong = sym h ∙ same ∙ sym c.lies_in.ensures ∙ c.if-lies_in.false in cc, λ h. let lt = h.1 in absurd (omega (arith, lt)))
