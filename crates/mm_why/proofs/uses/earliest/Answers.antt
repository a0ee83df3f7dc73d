use Rattle.std.proofs.Common.{◌≡◌, ℕ, length, MatchOption, subst, rules}
use Rattle.mm_why.{specs.Owning.IsUsable, proofs.Owning.usable_more}
use Rattle.mm_why.proofs.uses.earliest.Goals as goal

pub loop-k-preserved : goal.loop-k-preserved
loop-k-preserved c =
    usable_more c.args.lines.now c.args.places.now c.args.how c.args.word c.loop-k.k c.loop-k.best c.usable_at.result c.earlier-best.result c.loop-k.invariant c.usable_at.ensures
    c.earlier-best.ensures

pub returns : goal.returns
returns c =
    let e : c.loop-k.k ≡ length c.args.places.now = search rules in
    subst (λ n. MatchOption c.loop-k.best ((t : ℕ) → IsUsable c.args.lines.now c.args.places.now c.args.how c.args.word n t → ⊥)
    (IsUsable c.args.lines.now c.args.places.now c.args.how c.args.word n)) e c.loop-k.invariant
