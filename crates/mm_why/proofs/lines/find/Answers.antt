use Rattle.std.proofs.Common.{inl, inr, refl, sym, ap, ◌∙◌}
use Rattle.mm_why.{specs.Derivations.line_at, proofs.Pruning.{same_line, same_or_before}}
use Rattle.mm_why.proofs.lines.find.Goals as goal

pub returns-then-grants : goal.returns-then-grants
returns-then-grants c =
    let e = same_line c.args.lines.now c.loop-k.k c.index-lines-k.result c.loop-k-test.true c.index-lines-k.is in
    let h = c.if-grants.ensures.0 refl in
    record {
      earlier = c.loop-k-test.true;
      group = ap (λ v. v.group) (sym e) ∙ h.0;
      pointer = ap (λ v. v.pointer) (sym e) ∙ h.1;
    }

pub loop-k-preserved : goal.loop-k-preserved
loop-k-preserved c = λ k lt g p. elim (same_or_before k c.loop-k.k lt) [
  | inr before ↦ c.loop-k.invariant k before g p
  | inl e ↦
      let s = same_line c.args.lines.now c.loop-k.k c.index-lines-k.result c.loop-k-test.true c.index-lines-k.is in
      let bad = c.if-grants.ensures.1 (
        ap (λ v. v.group) s ∙ ap (λ v. (line_at c.args.lines.now v).group) (sym e)
            ∙ g,
        ap (λ v. v.pointer) s ∙ ap (λ v. (line_at c.args.lines.now v).pointer) (sym e) ∙ p,
      ) in
      cc
]
