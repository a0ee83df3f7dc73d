use Rattle.std.proofs.Common.{◌∙◌, sym, arith, below_more}
use Rattle.mm_audit.{specs.Own.is_covered, proofs.OwnPages.{has_then, has_none}}
use Rattle.mm_audit.proofs.kept_parts.has_word.Goals as goal

pub returns-then-covers : goal.returns-then-covers
returns-then-covers c = sym (has_then (is_covered c.args.set.now) c.args.page c.loop-cell_index.cell_index c.loop-cell_index-test.true (sym c.covers.ensures ∙ c.if-covers.true))

pub loop-cell_index-preserved : goal.loop-cell_index-preserved
loop-cell_index-preserved c = below_more _ _ c.loop-cell_index.invariant (sym c.covers.ensures ∙ c.if-covers.false)

pub returns : goal.returns
returns c = sym (has_none (is_covered c.args.set.now) c.args.page (λ k lt. c.loop-cell_index.invariant k (omega arith)))
